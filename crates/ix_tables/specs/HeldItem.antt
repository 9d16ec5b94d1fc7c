-- A held place after a `&mut` to its item ends.
use Rattle.std.specs.Prelude.{Option, Some}
use Rattle.std.specs.Borrow.{Fml, RattleType, MutBor, Lends}
use Rattle.ix_tables.specs.contracts.cells.maybe_moved.MaybeMoved as maybe_moved

-- as it was, with the last value behind the reference r
abbrev pub moved_lends : (T : RattleType) → MutBor (Option T.Denot) → MutBor T.Denot → Fml
moved_lends T s r = Lends (maybe_moved.the_row T) T s r Some
