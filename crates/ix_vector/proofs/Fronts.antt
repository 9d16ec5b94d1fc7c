-- A lemma on the places of a full array, the first of which are items.
use Rattle.std.proofs.Common.{◌≡◌, ◌∙◌, ℕ, List, length, take, sym, ap, arith}
use Rattle.std.proofs.lemmas.List.{length-take-le}
use Rattle.ix_vector.specs.inner.Fronts.{IsFront}

-- the items are as many as len says
pub length-front : {T : Type 0} {places items : List T} {capacity len : ℕ} → IsFront capacity places len → take len places ≡ items → length items ≡ len
length-front {places = places} {len = len} is shown = ap length (sym shown) ∙ length-take-le len places (omega (arith, is.within, is.whole))
