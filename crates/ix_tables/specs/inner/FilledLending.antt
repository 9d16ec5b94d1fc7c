-- A place that has the bytes of an item at all times, after a `&mut` to its item ends.
use Rattle.std.specs.Prelude.{Option, Some}
use Rattle.std.specs.Borrow.{Fml, RattleType, MutBor, Lends}
use Rattle.ix_tables.specs.contracts.cells.filled.Filled.{the_row}

-- it holds the last value behind the reference r
abbrev pub filled_lends : (T : RattleType) → MutBor (Option T.Denot) → MutBor T.Denot → Fml
filled_lends T s r = Lends (the_row T) T s r Some
