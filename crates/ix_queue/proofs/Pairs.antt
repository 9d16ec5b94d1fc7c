-- Two lists that are compared item by item, from the first one on.
use Rattle.std.proofs.Common.{◌≡◌, ℕ, zero, suc, ◌+◌, List, [], ◌∷◌, drop, slice_get, Bool, true, false, Some, sym, ap, ◌∙◌, arith, ◌&&◌}
use Rattle.std.specs.Cmp.Lexicographic.{pointwise}

module _ {T : Type 0} (equal : T → T → Bool) where
  -- the lists are equal from index i on if they are at i, and from i + 1 on
  pointwise-drop : (xs ys : List T) (i : ℕ) (x y : T) → slice_get xs i ≡ Some x → slice_get ys i ≡ Some y → pointwise equal (drop i xs) (drop i ys) ≡ (equal x y && pointwise equal (drop (i + 1) xs) (drop (i + 1) ys))
  pointwise-drop [] ys i x y left right = grind arith
  pointwise-drop (a ∷ xs) [] i x y left right = grind arith
  pointwise-drop (a ∷ xs) (b ∷ ys) zero x y left right = grind arith
  pointwise-drop (a ∷ xs) (b ∷ ys) (suc i) x y left right =
      let next : suc i + 1 ≡ suc (i + 1) = omega arith in
      rw next (pointwise-drop xs ys i x y left right)

  -- the items at i are equal: the lists are equal if they are from i + 1 on
  pub pointwise-next : (xs ys : List T) (i : ℕ) (x y : T) → slice_get xs i ≡ Some x → slice_get ys i ≡ Some y → equal x y ≡ true → pointwise equal (drop i xs) (drop i ys) ≡ pointwise equal xs ys → pointwise equal (drop (i + 1) xs) (drop (i + 1) ys) ≡ pointwise equal xs ys
  pointwise-next xs ys i x y left right same rest =
      ap (λ b. b && pointwise equal (drop (i + 1) xs) (drop (i + 1) ys)) (sym same) ∙ sym (pointwise-drop xs ys i x y left right) ∙ rest

  -- the items at i are not equal: nor are the lists
  pub pointwise-false : (xs ys : List T) (i : ℕ) (x y : T) → slice_get xs i ≡ Some x → slice_get ys i ≡ Some y → equal x y ≡ false → pointwise equal (drop i xs) (drop i ys) ≡ pointwise equal xs ys → false ≡ pointwise equal xs ys
  pointwise-false xs ys i x y left right other rest =
      ap (λ b. b && pointwise equal (drop (i + 1) xs) (drop (i + 1) ys)) (sym other) ∙ sym (pointwise-drop xs ys i x y left right) ∙ rest
