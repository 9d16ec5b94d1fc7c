-- The items of a range: what is left of it without its first or its last one.
use Rattle.std.proofs.Common.{◌≡◌, ℕ, suc, ◌+◌, ◌-◌, ◌<◌, List, [], ◌∷◌, ◌++◌, take, drop, get_or, slice_get, Some, ap, ◌∙◌, arith}
use Rattle.std.specs.Prelude.{◌≢◌, slice_range}
use Rattle.ix_queue.specs.inner.Ring.{IsIndexRange}
use Rattle.std.proofs.lemmas.List.{drop_more, take_more, get_or-drop, length-drop}
use Rattle.std.proofs.lemmas.Option.{slice_get_within, get_or_from_slice_get}

module _ {T : Type 0} (items : List T) (index end : ℕ) (x : T) (range : IsIndexRange items index end) (more : index ≢ end) where
  below : index < end
  below = let rises = range.rises in omega arith

  pub slice_range-first : slice_get items index ≡ Some x → slice_range items index end ≡ x ∷ slice_range items (index + 1) end
  slice_range-first at =
      let one_more : end - index ≡ suc (end - (index + 1)) = omega (arith, below) in
      ap (take (end - index)) (drop_more items index x (slice_get_within items index x at) ∙ ap (λ y. y ∷ drop (index + 1) items) (get_or_from_slice_get items index x x at))
      ∙ ap (λ n. take n (x ∷ drop (index + 1) items)) one_more

  pub slice_range-last : slice_get items (end - 1) ≡ Some x → slice_range items index end ≡ slice_range items index (end - 1) ++ x ∷ []
  slice_range-last at =
      let within = slice_get_within items (end - 1) x at in
      let rest = length-drop index items in
      let one_more : end - index ≡ (end - 1 - index) + 1 = omega (arith, below) in
      let last : index + (end - 1 - index) ≡ end - 1 = omega (arith, below) in
      ap (λ n. take n (drop index items)) one_more
      ∙ take_more (drop index items) (end - 1 - index) x (omega (arith, below))
      ∙ ap (λ y. take (end - 1 - index) (drop index items) ++ y ∷ []) (get_or-drop index items (end - 1 - index) x ∙ ap (λ i. get_or items i x) last ∙ get_or_from_slice_get items (end - 1) x x at)
