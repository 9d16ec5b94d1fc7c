-- The order of two lists that are compared by iterators over them.
use Rattle.std.proofs.Common.{◌≡◌, List, [], ◌∷◌, Option, Some, None, Ordering, Bor, refl, sym, ap, ◌∙◌}
use Rattle.std.specs.Ordering.{partial_ordering_then}
use Rattle.std.specs.declared.cmp.Ordering.TheVariants.{Less, Equal, Greater}
use Rattle.std.specs.Option.{MatchOption}
use Rattle.std.specs.List.{AllZip}
use Rattle.std.specs.Iterator.{YieldsFirstRef, YieldsThen}
use Rattle.std.specs.Iterator.Order.{ComparesItemsByPartialCmp}
use Rattle.std.specs.Cmp.Lexicographic.{slice_partial_cmp}

module _ {T : Type 0} (compare : T → T → Option Ordering) (order : Option Ordering) where
  abbrev steps : List T → Option (Bor T) → List T → Type 0
  steps = YieldsFirstRef (λ rest. rest)

  -- what the first items that are not equal decide, or the list that ended first
  abbrev Decides : Option (Bor T) → Option (Bor T) → Type 0
  Decides first second =
      MatchOption first (MatchOption second (order ≡ Some Equal) (λ _. order ≡ Some Less))
      (λ x. MatchOption second (order ≡ Some Greater) (λ y. (order ≡ compare x.now y.now) × ¬ (order ≡ Some Equal)))

  decided : (found : Option Ordering) (rest : Option Ordering) → ¬ (found ≡ Some Equal) → found ≡ partial_ordering_then found rest
  decided None rest other = refl
  decided (Some Less) rest other = refl
  decided (Some Equal) rest other = absurd (other refl)
  decided (Some Greater) rest other = refl

  at_end : (first second : Option (Bor T)) (xs ys us vs : List T) → steps xs first us → steps ys second vs → Decides first second → order ≡ slice_partial_cmp compare xs ys
  at_end None None xs ys us vs left right is = rw (left.0, right.0) is
  at_end None (Some y) xs ys us vs left right is = rw (left.0, right) is
  at_end (Some x) None xs ys us vs left right is = rw (left, right.0) is
  at_end (Some x) (Some y) xs ys us vs left right is =
      rw (left, right) (decided order _ is.1 ∙ ap (λ found. partial_ordering_then found (slice_partial_cmp compare us vs)) is.0)

  along : (left_items right_items : List (Bor T)) (first second : Option (Bor T)) (xs ys us vs : List T) → YieldsThen steps xs left_items first us → YieldsThen steps ys right_items second vs → AllZip (λ x y. compare x.now y.now ≡ Some Equal) left_items right_items → Decides first second → order ≡ slice_partial_cmp compare xs ys
  along [] [] first second xs ys us vs left right same is =
      rw (left.1, right.1) (at_end first second _ _ us vs left.2 right.2 is)
  along [] (y ∷ right_items) first second xs ys us vs left right same is = absurd same
  along (x ∷ left_items) [] first second xs ys us vs left right same is = absurd same
  along (x ∷ left_items) (y ∷ right_items) first second xs ys us vs (s, (next, comes, rest), ends) (t, (other_next, other_comes, other_rest), other_ends) same is =
      rw (comes, other_comes) (along left_items right_items first second next other_next us vs (s, rest, ends) (t, other_rest, other_ends) same.1 is
      ∙ ap (λ found. partial_ordering_then found (slice_partial_cmp compare next other_next)) (sym same.0))

  pub slice_partial_cmp-compared : (xs ys : List T) → ComparesItemsByPartialCmp steps (λ (other it : List T). it ≡ other) steps xs ys (λ x y. compare x.now y.now) order → order ≡ slice_partial_cmp compare xs ys
  slice_partial_cmp-compared xs ys (it, left_items, right_items, first, second, us, vs, begins, left, right, same, is) =
      rw (← begins) (along left_items right_items first second xs it us vs left right same is)
