use Rattle.std.proofs.Common.{◌≡◌, length, false, ◌≤◌, vec_capacity}
use Rattle.std.specs.Prelude.{replicate}
use Rattle.ix_tables.proofs.cells.raw_slots.unmarked.Given as goal

abbrev pub invariant-loop-i : goal.invariant-loop-i
invariant-loop-i g l = record {
  marks : l.held.items ≡ replicate l._i false;
  len : length l.held.items ≡ l._i;
  room : l.len ≤ vec_capacity l.held;
}
