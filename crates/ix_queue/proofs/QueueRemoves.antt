-- A list without one of its items: what it is without the next one, or the one before.
use Rattle.std.proofs.Common.{◌≡◌, ℕ, zero, suc, ◌<◌, List, [], ◌∷◌, length, slice_get, Some, refl, ap, arith}
use Rattle.std.specs.Prelude.{slice_set, remove}

module _ {T : Type 0} where
  pub slice_get-remove : (items : List T) (i : ℕ) → i < length items → slice_get (remove items i) i ≡ slice_get items (suc i)
  slice_get-remove [] i below = absurd (omega arith)
  slice_get-remove (x ∷ items) zero below = refl
  slice_get-remove (x ∷ items) (suc i) below = slice_get-remove items i (omega arith)

  pub slice_get-remove_next : (items : List T) (i : ℕ) → suc i < length items → slice_get (remove items (suc i)) i ≡ slice_get items i
  slice_get-remove_next [] i below = absurd (omega arith)
  slice_get-remove_next (x ∷ items) zero below = refl
  slice_get-remove_next (x ∷ items) (suc i) below = slice_get-remove_next items i (omega arith)

  -- the item at i takes the place of the next one
  pub set-remove : (items : List T) (i : ℕ) (x : T) → slice_get items i ≡ Some x → suc i < length items → slice_set (remove items i) i x ≡ remove items (suc i)
  set-remove [] i x at below = absurd (omega arith)
  set-remove (y ∷ []) zero x at below = absurd (omega arith)
  set-remove (y ∷ z ∷ items) zero x at below = ap (λ r. r ∷ items) (search at)
  set-remove (y ∷ items) (suc i) x at below = ap (λ r. y ∷ r) (set-remove items i x at (omega arith))

  -- the next one takes the place of the item at i
  pub set-remove_next : (items : List T) (i : ℕ) (x : T) → slice_get items (suc i) ≡ Some x → suc i < length items → slice_set (remove items (suc i)) i x ≡ remove items i
  set-remove_next [] i x at below = absurd (omega arith)
  set-remove_next (y ∷ []) zero x at below = absurd (omega arith)
  set-remove_next (y ∷ z ∷ items) zero x at below = ap (λ r. r ∷ items) (search at)
  set-remove_next (y ∷ items) (suc i) x at below = ap (λ r. y ∷ r) (set-remove_next items i x at (omega arith))
