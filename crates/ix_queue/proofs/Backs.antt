-- A list and its last item.
use Rattle.std.proofs.Common.{◌≡◌, ◌+◌, ◌-◌, List, [], ◌∷◌, ◌++◌, length, take, slice_get, Option, Some, None, IsSome, true≢false, refl, sym, subst, ap, ◌∙◌, arith}
use Rattle.std.specs.Iterator.{YieldsLast}
use Rattle.std.proofs.lemmas.List.{take_all, take_more}
use Rattle.std.proofs.lemmas.Option.{slice_get_within, get_or_from_slice_get}
use Rattle.ix_queue.proofs.Rings.{IsSome-slice_get}

module _ {T : Type 0} where
  without_back : (items : List T) (x : T) → slice_get items (length items - 1) ≡ Some x → items ≡ take (length items - 1) items ++ x ∷ []
  without_back items x at =
      let last = length items - 1 in
      let below = slice_get_within items last x at in
      sym (take_all (last + 1) items (omega arith)) ∙ take_more items last x below ∙ ap (λ y. take last items ++ y ∷ []) (get_or_from_slice_get items last x x at)

  no_items : (items : List T) → None ≡ slice_get items (length items - 1) → items ≡ []
  no_items [] none = refl
  no_items (x ∷ items) none = absurd (true≢false (sym (subst IsSome (sym none) (IsSome-slice_get (x ∷ items) (length (x ∷ items) - 1) (omega arith)))))

  -- the last item is removed and returned, if there is one
  pub YieldsLast-back : (items rest : List T) (back : Option T) → back ≡ slice_get items (length items - 1) → rest ≡ take (length items - 1) items → YieldsLast (λ left. left) items back rest
  YieldsLast-back items rest None is left = let none = no_items items is in (none, left ∙ ap (λ xs. take (length xs - 1) xs) none)
  YieldsLast-back items rest (Some x) is left = without_back items x (sym is) ∙ ap (λ xs. xs ++ x ∷ []) (sym left)
