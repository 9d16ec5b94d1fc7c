-- An array that is made by calls of one closure, which each give the same.
use Rattle.std.proofs.Common.{◌≡◌, ◌∙◌, ℕ, zero, suc, ◌+◌, ◌<◌, ◌≤◌, List, replicate, ap, subst, arith, inl, inr}
use Rattle.std.proofs.lemmas.Bool.{cases_eq}
use Rattle.std.specs.Prelude.{slice_index_or}
use Rattle.std.specs.Array.{IsFromFnResultFrom, IsFromFnResult}
use denote.Param.Members.{Mut, Called}
use Rattle.ix_tables.proofs.Places.{all_alike}

module _ {F B : Type 0} (g : Mut F (ℕ × Unit {0}) B) (f : F) (x : B) (each : (i : ℕ) (y : B) (q : F) → Called g f (i, tt) y q → (q ≡ f) × (y ≡ x)) where
  made_at : (ys : List B) (n i : ℕ) → IsFromFnResultFrom g f ys i n → (k : ℕ) (e : B) → i ≤ k → k < i + n → slice_index_or ys k e ≡ x
  made_at ys zero i made k e from below = absurd (omega (arith, from, below))
  made_at ys (suc n) i made k e from below = elim (cases_eq k i) [
    | inl here ↦ ap (λ (j : ℕ). slice_index_or ys j e) here ∙ made.2.1 e ∙ (each i made.1 made.0 made.3).1
    | inr past ↦
        made_at ys n (i + 1) (subst (λ (q : F). IsFromFnResultFrom g q ys (i + 1) n) (each i made.1 made.0 made.3).0 made.4) k e (omega (arith, from, past)) (omega (arith, below))
  ]

  pub made_alike : (ys : List B) (n : ℕ) → IsFromFnResult g f ys n → ys ≡ replicate n x
  made_alike ys n made = all_alike x ys n made.long (λ i e below. made_at ys n 0 made.each i e (omega arith) (omega (arith, below)))
