-- A list and its last item, and lists whose end is popped item by item or reversed.
use Rattle.std.proofs.Common.{◌≡◌, ℕ, ◌+◌, ◌-◌, ◌≤◌, List, [], ◌∷◌, ◌++◌, length, take, drop, reverse, slice_get, Some, None, refl, sym, ap, ◌∙◌, arith, append_assoc, append-nil, length-append}
use Rattle.std.proofs.lemmas.Grind.{common_steps}
use Rattle.std.proofs.lemmas.List.{reverse-append, reverse-reverse, length-reverse, take_all, take_more, take_rest, drop_all}
use Rattle.std.proofs.lemmas.Option.{slice_get-get_or, slice_get_within, get_or_from_slice_get}
use borrow.Rule.Slice.PartMut.{put_mid}

module _ {T : Type 0} where
  pub without_last : (items : List T) (x : T) → slice_get items (length items - 1) ≡ Some x → items ≡ take (length items - 1) items ++ x ∷ []
  without_last items x at =
      let last = length items - 1 in
      let below = slice_get_within items last x at in
      sym (take_all (last + 1) items (omega arith)) ∙ take_more items last x below ∙ ap (λ y. take last items ++ y ∷ []) (get_or_from_slice_get items last x x at)

  pub no_last : (items : List T) → None ≡ slice_get items (length items - 1) → items ≡ []
  no_last [] none = refl
  no_last (x ∷ items) none =
      let some = slice_get-get_or (x ∷ items) (length (x ∷ items) - 1) x (omega arith) in
      let bad = none ∙ some in
      absurd cc

  -- one more of the items xs is popped
  pub popped-next : (xs items moved : List T) (x : T) → xs ≡ items ++ reverse moved → slice_get items (length items - 1) ≡ Some x
      → xs ≡ take (length items - 1) items ++ reverse (moved ++ x ∷ [])
  popped-next xs items moved x whole last =
      let rest = take (length items - 1) items in
      whole ∙ ap (λ ys. ys ++ reverse moved) (without_last items x last) ∙ append_assoc rest (x ∷ []) (reverse moved) ∙ ap (λ ys. rest ++ ys) (sym (reverse-append moved (x ∷ [])))

  pub popped-count : (xs items moved : List T) → xs ≡ items ++ reverse moved → length xs ≡ length items + length moved
  popped-count xs items moved whole =
      ap length whole ∙ length-append items (reverse moved) ∙ ap (λ n. length items + n) (length-reverse moved)

  pub popped-items : (xs items moved : List T) (at : ℕ) → xs ≡ items ++ reverse moved → length items ≡ at → items ≡ take at xs
  popped-items xs items moved at whole end = grind (arith, common_steps)

  pub popped-moved : (xs items moved : List T) (at : ℕ) → xs ≡ items ++ reverse moved → length items ≡ at → moved ≡ reverse (drop at xs)
  popped-moved xs items moved at whole end =
      let rest : drop at xs ≡ reverse moved = grind (arith, common_steps) in
      sym (reverse-reverse moved) ∙ ap reverse (sym rest)

  pub take-reversed : (xs : List T) (at : ℕ) → at ≤ length xs → take at (take at xs ++ reverse (drop at xs)) ≡ take at xs
  take-reversed xs at below = grind (arith, common_steps)

  pub drop-reversed : (xs : List T) (at : ℕ) → at ≤ length xs → drop at (take at xs ++ reverse (drop at xs)) ≡ reverse (drop at xs)
  drop-reversed xs at below = grind (arith, common_steps)

  pub length-reversed : (xs : List T) (at : ℕ) → at ≤ length xs → length (take at xs ++ reverse (drop at xs)) ≡ length xs
  length-reversed xs at below = grind (arith, common_steps)

  pub put_mid-reverse : (xs : List T) (i : ℕ) → i ≤ length xs
      → put_mid i (length xs - i) xs (reverse (take (length xs - i) (drop i xs))) ≡ take i xs ++ reverse (drop i xs)
  put_mid-reverse xs i below =
      let long : length (drop i xs) ≤ length xs - i = grind (arith, common_steps) in
      let past = drop_all (length xs - i) (drop i xs) long in
      rw (take_rest xs i, past) (ap (λ ys. take i xs ++ ys) (append-nil (reverse (drop i xs))))
