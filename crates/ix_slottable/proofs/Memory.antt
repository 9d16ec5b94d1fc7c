-- A map with a greater capacity takes no less memory.
use Rattle.std.proofs.Common.{◌≡◌, ℕ, ◌≤◌, ◌+◌, sym, ap₂, subst, arith}
use Rattle.ix_tables.specs.Memory.{no_memory, memory_plus, table_memory, items_memory}
use Rattle.ix_tables.specs.declared.cells.MemorySize.{MemorySize}
use Rattle.ix_tables.proofs.Memory.{saturated-mono, items_memory-mono, table_memory-mono}
use Rattle.ix_slottable.specs.Memory.{slot_table_memory, slot_map_memory}

memory_plus-mono : (a b c d : MemorySize) → a.bytes ≤ c.bytes → b.bytes ≤ d.bytes → (memory_plus a b).bytes ≤ (memory_plus c d).bytes
memory_plus-mono a b c d first second = saturated-mono (a.bytes + b.bytes) (c.bytes + d.bytes) (omega (arith, first, second))

pub memory_plus-none : (a b : MemorySize) → a ≡ no_memory → b ≡ no_memory → memory_plus a b ≡ no_memory
memory_plus-none a b first second = ap₂ memory_plus first second

slot_table_memory-mono : (value link m n : ℕ) → m ≤ n → (slot_table_memory value link m).bytes ≤ (slot_table_memory value link n).bytes
slot_table_memory-mono value link m n le =
    memory_plus-mono (table_memory value m) (items_memory link m) (table_memory value n) (items_memory link n) (table_memory-mono value m n le) (items_memory-mono link m n le)

pub slot_table_memory-rises : (taken : MemorySize) (value link m n : ℕ) → taken ≡ slot_table_memory value link m → m ≤ n → taken.bytes ≤ (slot_table_memory value link n).bytes
slot_table_memory-rises taken value link m n is le = subst (λ (t : MemorySize). t.bytes ≤ (slot_table_memory value link n).bytes) (sym is) (slot_table_memory-mono value link m n le)

slot_map_memory-mono : (content link word m n : ℕ) → m ≤ n → (slot_map_memory content link word m).bytes ≤ (slot_map_memory content link word n).bytes
slot_map_memory-mono content link word m n le =
    memory_plus-mono (slot_table_memory content link m) (items_memory word m) (slot_table_memory content link n) (items_memory word n) (slot_table_memory-mono content link m n le) (items_memory-mono word m n le)

pub slot_map_memory-rises : (taken : MemorySize) (content link word m n : ℕ) → taken ≡ slot_map_memory content link word m → m ≤ n → taken.bytes ≤ (slot_map_memory content link word n).bytes
slot_map_memory-rises taken content link word m n is le = subst (λ (t : MemorySize). t.bytes ≤ (slot_map_memory content link word n).bytes) (sym is) (slot_map_memory-mono content link word m n le)
