-- The items that a closure gives that computes each, and stays as it was.
use Rattle.std.proofs.Common.{ℕ, ◌≡◌, ◌+◌, List, [], ◌∷◌, length, map, replicate, refl, subst, ap₂}
use Rattle.std.specs.List.{FoldsTo, range_with_len}
use Rattle.ix_tables.specs.Calls.{Computes, ResultsFrom}

module _ {F T : Type 0} (step : F → T → F → Type 0) (item : T) (f : F) (one : (x : T) (next : F) → step f x next → (x ≡ item) × (next ≡ f)) where
  pub FoldsTo-replicate : (ys : List T) (last : F) → FoldsTo step f ys last → ys ≡ replicate (length ys) item
  FoldsTo-replicate [] last folds = refl
  FoldsTo-replicate (y ∷ ys) last (next, called, rest) =
      let same = one y next called in
      ap₂ (λ x xs. x ∷ xs) same.0 (FoldsTo-replicate ys last (subst (λ g. FoldsTo step g ys last) same.1 rest))

module _ {F X : Type 0} (step : F → ℕ → X → F → Type 0) (f : F) (value : ℕ → X) (computes : Computes step f value) where
  pub ResultsFrom-map : (i : ℕ) (xs : List X) (last : F) → ResultsFrom step i f xs last → xs ≡ map value (range_with_len i (length xs))
  ResultsFrom-map i [] last calls = refl
  ResultsFrom-map i (x ∷ xs) last (next, called, rest) =
      let same = computes i x next called in
      ap₂ (λ y ys. y ∷ ys) same.0 (ResultsFrom-map (i + 1) xs last (subst (λ g. ResultsFrom step (i + 1) g xs last) same.1 rest))
