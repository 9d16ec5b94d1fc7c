use Rattle.std.proofs.Common.{◌≡◌, All, length, drop}
use Rattle.ix_tables.proofs.cells.full_array.fill_with_defaults.Given as goal

-- the number of places stays, and those from i on are defaults
abbrev pub invariant-loop-i : goal.invariant-loop-i
invariant-loop-i g l = record {
  len : length l.places ≡ length l.fn.places;
  defaults : All g.T.Default.is_default (drop l.i l.places);
}
