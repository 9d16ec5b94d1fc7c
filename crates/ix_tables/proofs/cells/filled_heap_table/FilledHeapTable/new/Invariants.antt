use Rattle.std.proofs.Common.{◌≡◌, ◌≤◌, length, replicate, None, vec_capacity}
use Rattle.ix_tables.proofs.cells.filled_heap_table.FilledHeapTable.new.Given as goal

abbrev pub invariant-loop-place : goal.invariant-loop-place
invariant-loop-place g l = record {
  alike : l.places.items ≡ replicate l._place None;
  len : length l.places.items ≡ l._place;
  room : l.len ≤ vec_capacity l.places;
}
