use Rattle.std.proofs.Common.{◌≡◌, length, take}
use Rattle.std.specs.List.{AllZip}
use Rattle.ix_tables.proofs.cells.full_array.fill_with_clones.Given as goal

abbrev pub invariant-loop-i : goal.invariant-loop-i
invariant-loop-i g l = record {
  clones : AllZip g.T.Clone.is_clone (take l.i l.items) (take l.i l.places);
  len : length l.places ≡ length l.items;
}
