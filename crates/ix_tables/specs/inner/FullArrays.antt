-- A full `ArrayVec`, or a row of places, after a `&mut` into one place ends.
use Rattle.std.specs.Prelude.{ℕ, List, slice_set}
use Rattle.std.specs.Borrow.{Fml, RattleType, MutBor, Lends, Array, unit}
use Rattle.arrayvec.specs.ArrayVec.{ArrayVec, with_item}
use Rattle.arrayvec.specs.contracts.array_vec.ArrayVec.{the_row}

-- the array is as it was, with the last value behind the reference r as its place i
abbrev pub array_vec_lends_place : (T CAP : RattleType) → MutBor (ArrayVec T.Denot) → ℕ → MutBor T.Denot → Fml
array_vec_lends_place T CAP array i r = Lends (the_row T CAP unit) T array r (with_item array.now i)

-- the places are as they were, with the last value behind r as place i
abbrev pub slice_lends_place : (T : RattleType) → MutBor (List T.Denot) → ℕ → MutBor T.Denot → Fml
slice_lends_place T places i r = Lends (Array T 0) T places r (slice_set places.now i)
