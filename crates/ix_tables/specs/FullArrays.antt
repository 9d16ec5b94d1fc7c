-- A full `ArrayVec` after a `&mut` to its first places ends.
use Rattle.std.specs.Prelude.{List}
use Rattle.std.specs.Borrow.{Fml, RattleType, MutBor, Lends, Array, unit}
use Rattle.arrayvec.specs.ArrayVec.{ArrayVec, with_items}
use Rattle.arrayvec.specs.contracts.array_vec.ArrayVec.{the_row}

-- the array begins with the last values behind r, which are all or the first of its places, and goes on as it was
abbrev pub array_vec_lends_front : (T CAP : RattleType) → MutBor (ArrayVec T.Denot) → MutBor (List T.Denot) → Fml
array_vec_lends_front T CAP array r = Lends (the_row T CAP unit) (Array T 0) array r (with_items array.now)
