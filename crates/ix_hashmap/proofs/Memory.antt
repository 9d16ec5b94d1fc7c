-- What two parts of a map take rises with each of them.
use Rattle.std.proofs.Common.{◌≡◌, ◌≤◌, ◌+◌, sym, subst, arith}
use Rattle.ix_tables.specs.Memory.{memory_plus}
use Rattle.ix_tables.specs.declared.cells.MemorySize.{MemorySize}
use Rattle.ix_tables.proofs.Memory.{saturated-mono}

pub memory_plus-rises : (taken a b c d : MemorySize) → taken ≡ memory_plus a b → a.bytes ≤ c.bytes → b.bytes ≤ d.bytes → taken.bytes ≤ (memory_plus c d).bytes
memory_plus-rises taken a b c d is first second =
    subst (λ (t : MemorySize). t.bytes ≤ (memory_plus c d).bytes) (sym is) (saturated-mono (a.bytes + b.bytes) (c.bytes + d.bytes) (omega (arith, first, second)))
