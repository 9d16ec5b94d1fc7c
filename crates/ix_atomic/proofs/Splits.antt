-- Where a list splits, and where its items stand in fronts and filtered lists.
use Rattle.std.proofs.Common.{◌≡◌, ℕ, zero, suc, ◌<◌, ◌⊎◌, List, [], ◌∷◌, ◌++◌, take, drop, Some, Bool, cond, refl, sym, ap, ap₂, ◌∙◌, inl, inr, arith}
use Rattle.std.specs.List.{filter, slice_get}
use Rattle.std.proofs.lemmas.Bool.{cases_Bool}

module _ {S : Type 0} where
  -- a list splits at each of its items
  pub split_at : (xs : List S) (i : ℕ) (x : S) → slice_get xs i ≡ Some x → xs ≡ take i xs ++ x ∷ drop (suc i) xs
  split_at [] i x e = absurd (cc)
  split_at (y ∷ xs) zero x e = let same : y ≡ x = cc in ap (λ z. z ∷ xs) same
  split_at (y ∷ xs) (suc i) x e = ap (λ l. y ∷ l) (split_at xs i x e)

  -- the items of a front
  pub in_take : (xs : List S) (j i : ℕ) (x : S) → slice_get (take j xs) i ≡ Some x → (slice_get xs i ≡ Some x) × (i < j)
  in_take [] zero i x e = absurd (cc)
  in_take [] (suc j) i x e = absurd (cc)
  in_take (y ∷ xs) zero i x e = absurd (cc)
  in_take (y ∷ xs) (suc j) zero x e = (e, omega arith)
  in_take (y ∷ xs) (suc j) (suc i) x e = let h = in_take xs j i x e in (h.0, omega (arith, h.1))

  pub to_take : (xs : List S) (j i : ℕ) (x : S) → slice_get xs i ≡ Some x → i < j → slice_get (take j xs) i ≡ Some x
  to_take [] j i x e below = absurd (cc)
  to_take (y ∷ xs) zero i x e below = absurd (omega arith)
  to_take (y ∷ xs) (suc j) zero x e below = e
  to_take (y ∷ xs) (suc j) (suc i) x e below = to_take xs j i x e (omega arith)

  -- two ways to split one list: the first front is the shorter one, or it is not
  pub split_append : (xs ys us vs : List S) → xs ++ ys ≡ us ++ vs → ((x : S) × (rest : List S) × (us ≡ xs ++ x ∷ rest)) ⊎ ((rest : List S) × (xs ≡ us ++ rest) × (rest ++ ys ≡ vs))
  split_append xs ys [] vs e = inr (xs, refl, e)
  split_append [] ys (u ∷ us) vs e = inl (u, us, refl)
  split_append (x ∷ xs) ys (u ∷ us) vs e =
      let same : x ≡ u = cc in
      let rest : xs ++ ys ≡ us ++ vs = cc in
      elim (split_append xs ys us vs rest) [
        | inl h ↦ inl (h.0, h.1, ap₂ ◌∷◌ (sym same) h.2)
        | inr h ↦ inr (h.0, ap₂ ◌∷◌ same h.1, h.2)
      ]

  -- an item of a filtered list stands somewhere in the list
  pub split_filter : (test : S → Bool) (xs : List S) (i : ℕ) (x : S) → slice_get (filter test xs) i ≡ Some x → (front : List S) × (back : List S) × (xs ≡ front ++ x ∷ back)
  split_filter test [] i x e = absurd (cc)
  split_filter test (y ∷ xs) i x e = elim (cases_Bool (test y)) [
    | inl kept ↦ here i (sym (ap (λ b. slice_get (cond b (y ∷ filter test xs) (filter test xs)) i) kept) ∙ e) (λ j h. split_filter test xs j x h)
    | inr passed ↦ let h = split_filter test xs i x (sym (ap (λ b. slice_get (cond b (y ∷ filter test xs) (filter test xs)) i) passed) ∙ e) in (y ∷ h.0, h.1, ap (λ l. y ∷ l) h.2)
  ]
    where
      here : (i : ℕ) → slice_get (y ∷ filter test xs) i ≡ Some x → ((j : ℕ) → slice_get (filter test xs) j ≡ Some x → (front : List S) × (back : List S) × (xs ≡ front ++ x ∷ back)) → (front : List S) × (back : List S) × (y ∷ xs ≡ front ++ x ∷ back)
      here zero e later = let same : y ≡ x = cc in ([], xs, ap (λ z. z ∷ xs) same)
      here (suc j) e later = let h = later j e in (y ∷ h.0, h.1, ap (λ l. y ∷ l) h.2)

  pub front_of_none : (xs ys : List S) → xs ++ ys ≡ [] → xs ≡ []
  front_of_none [] ys e = refl
  front_of_none (x ∷ xs) ys e = absurd (cc)
