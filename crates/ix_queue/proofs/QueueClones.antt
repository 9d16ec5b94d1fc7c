-- Lists of clones.
use Rattle.std.proofs.Common.{◌≡◌, ℕ, ◌+◌, List, [], ◌∷◌, ◌++◌, length, take, slice_get, Some, refl, sym, ap, ap₂, ◌∙◌, subst, arith}
use Rattle.std.specs.List.{AllZip}
use Rattle.std.proofs.lemmas.List.{take_more}
use Rattle.std.proofs.lemmas.List.Elements.{AllZip-push}
use Rattle.std.proofs.lemmas.Option.{slice_get_within, get_or_from_slice_get}
use Rattle.ix_tables.specs.Cloning.{AreEqualClones, AreInfallible}

module _ {T : Type 0} where
  -- the item at index i is cloned next
  pub AllZip-next : (is_clone : T → T → Type 0) (items clones : List T) (i : ℕ) (x y : T) → slice_get items i ≡ Some x → AllZip is_clone (take i items) clones → is_clone x y → AllZip is_clone (take (i + 1) items) (clones ++ y ∷ [])
  AllZip-next is_clone items clones i x y at all is =
      let one_more : take (i + 1) items ≡ take i items ++ x ∷ [] =
      take_more items i x (slice_get_within items i x at) ∙ ap (λ z. take i items ++ z ∷ []) (get_or_from_slice_get items i x x at) in
      subst (λ xs. AllZip is_clone xs (clones ++ y ∷ [])) (sym one_more) (AllZip-push is_clone (take i items) clones x y all is)

  pub clones_are_equal : (is_clone : T → T → Type 0) (items clones : List T) → AreEqualClones is_clone → AllZip is_clone items clones → clones ≡ items
  clones_are_equal is_clone [] [] equal all = refl
  clones_are_equal is_clone [] (y ∷ clones) equal all = absurd all
  clones_are_equal is_clone (x ∷ items) [] equal all = absurd all
  clones_are_equal is_clone (x ∷ items) (y ∷ clones) equal (first, all) =
      ap₂ (λ z zs. z ∷ zs) (equal x y first) (clones_are_equal is_clone items clones equal all)

  pub AreInfallible-item : (is_infallible : T → Type 0) (items : List T) (i : ℕ) (x : T) → slice_get items i ≡ Some x → AreInfallible is_infallible items → is_infallible x
  AreInfallible-item is_infallible items i x at all =
      subst is_infallible (get_or_from_slice_get items i x x at) (all i x (slice_get_within items i x at))

  pub AreInfallible-none : (is_infallible : T → Type 0) (items : List T) → length items ≡ 0 → AreInfallible is_infallible items
  AreInfallible-none is_infallible items none i d below = absurd (omega arith)
