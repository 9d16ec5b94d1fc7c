-- Lemmas on tables that were made of empty places.
use Rattle.std.proofs.Common.{◌≡◌, ◌∙◌, ℕ, zero, suc, List, length, Option, None, refl, sym, ap}
use Rattle.std.specs.Prelude.{replicate}
use Rattle.std.proofs.lemmas.List.{length-replicate}
use Rattle.ix_tables.specs.Places.{place_at, IsVacant}

module _ {T : Type 0} {places : List (Option T)} (capacity : ℕ) (vacant : places ≡ replicate capacity None) where
  -- another table of as many empty places
  pub replicate-same_length : {L : Type 0} {others : List (Option L)} → others ≡ replicate capacity None → others ≡ replicate (length places) None
  replicate-same_length others = others ∙ ap (λ n. replicate n None) (sym (ap length vacant ∙ length-replicate capacity None))

  pub IsVacant-replicate : IsVacant places
  IsVacant-replicate = replicate-same_length vacant

-- no place of a row of empty places holds an item
pub place_at-replicate : {T : Type 0} (n i : ℕ) → place_at (replicate n (let none : Option T = None in none)) i ≡ None
place_at-replicate zero i = refl
place_at-replicate (suc n) zero = refl
place_at-replicate (suc n) (suc i) = place_at-replicate n i
