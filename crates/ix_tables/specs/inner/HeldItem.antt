-- The item of a `Some` after a `&mut` to it ends.
use Rattle.std.specs.Prelude.{Option, Some}
use Rattle.std.specs.contracts.option.Option as option
use Rattle.std.specs.Borrow.{Fml, RattleType, MutBor, Lends}

-- as it was, with the last value behind the reference r
abbrev pub option_lends : (T : RattleType) → MutBor (Option T.Denot) → MutBor T.Denot → Fml
option_lends T s r = Lends (option.the_row T) T s r Some
