-- A closure that is called with the items of a list in turn.
use Rattle.std.proofs.Common.{◌≡◌, ℕ, ◌+◌, ◌<◌, ◌≤◌, List, [], ◌∷◌, ◌++◌, length, take, drop, map, set, get_or, slice_get, Bool, true, false, Some, refl, sym, ap, ap₂, ◌∙◌, subst, arith}
use Rattle.std.specs.Prelude.{if◌then◌else◌}
use denote.Param.Always.{always_mut, mut_next}
use Rattle.std.specs.Borrow.{Bor, MutBor}
use Rattle.std.specs.Fn.{Mut, CalledAt, CalledAtMut}
use Rattle.std.specs.List.{FoldsTo, push, items_where_true}
use Rattle.std.specs.List.Retain.{IsFiltered, ReturnsInTurn}
use Rattle.std.proofs.lemmas.List.{append-nil, append_assoc, drop-drop, drop-set-lt, drop_all, drop_more, length-append, length-drop, take_all, take_more, take_more_set}
use Rattle.std.proofs.lemmas.Option.{slice_get_within, get_or_from_slice_get}
use Rattle.ix_tables.specs.Calls.{IsCallableOnEach}
use Rattle.ix_queue.specs.QueueCalls.{ChangesInTurn, IsCallableOnEachMut}

module _ {T : Type 0} where
  drop_at : (xs : List T) (i : ℕ) (x : T) → slice_get xs i ≡ Some x → drop i xs ≡ x ∷ drop (i + 1) xs
  drop_at xs i x at =
      drop_more xs i x (slice_get_within xs i x at) ∙ ap (λ y. y ∷ drop (i + 1) xs) (get_or_from_slice_get xs i x x at)

  drop_next : (xs ys : List T) (i : ℕ) → drop i xs ≡ drop i ys → drop (i + 1) xs ≡ drop (i + 1) ys
  drop_next xs ys i same = sym (drop-drop 1 i xs) ∙ ap (drop 1) same ∙ drop-drop 1 i ys

  -- of the items before index i some are changed; the one at i is x, and y is put in its place
  module _ (items old : List T) (i : ℕ) (x y : T) (at : slice_get items i ≡ Some x) (left : drop i items ≡ drop i old) where
    pub items_left : drop i old ≡ x ∷ drop (i + 1) old
    items_left = sym left ∙ drop_at items i x at ∙ ap (λ xs. x ∷ xs) (drop_next items old i left)

    pub items_left-set : drop (i + 1) (set items i y) ≡ drop (i + 1) old
    items_left-set = drop-set-lt (i + 1) items i y (omega arith) ∙ drop_next items old i left

    pub items_before-set : (ys : List T) → take (i + 1) (set items i y) ++ ys ≡ take i items ++ y ∷ ys
    items_before-set ys =
        ap (λ xs. xs ++ ys) (take_more_set items i y (slice_get_within items i x at)) ∙ append_assoc (take i items) (y ∷ []) ys

module _ {T P : Type 0} (R : P → T → Bool → P → Type 0) where
  ReturnsInTurn-push : (returned : List Bool) (xs : List T) (p q u : P) (x : T) (b : Bool) → length returned ≡ length xs → ReturnsInTurn R p returned xs q → R q x b u → ReturnsInTurn R p (returned ++ b ∷ []) (xs ++ x ∷ []) u
  ReturnsInTurn-push [] [] p q u x b same calls call = (u, subst (λ s. R s x b u) (sym calls) call, refl)
  ReturnsInTurn-push [] (y ∷ xs) p q u x b same calls call = absurd (omega arith)
  ReturnsInTurn-push (a ∷ returned) [] p q u x b same calls call = absurd calls
  ReturnsInTurn-push (a ∷ returned) (y ∷ xs) p q u x b same (next, first, calls) call =
      (next, first, ReturnsInTurn-push returned xs next q u x b (omega arith) calls call)

  items_where_true-push : (returned : List Bool) (xs : List T) (x : T) (b : Bool) → length returned ≡ length xs → items_where_true (returned ++ b ∷ []) (xs ++ x ∷ []) ≡ items_where_true returned xs ++ (if b then x ∷ [] else [])
  items_where_true-push [] [] x true same = refl
  items_where_true-push [] [] x false same = refl
  items_where_true-push [] (y ∷ xs) x b same = absurd (omega arith)
  items_where_true-push (a ∷ returned) [] x b same = absurd (omega arith)
  items_where_true-push (true ∷ returned) (y ∷ xs) x b same = ap (λ ys. y ∷ ys) (items_where_true-push returned xs x b (omega arith))
  items_where_true-push (false ∷ returned) (y ∷ xs) x b same = items_where_true-push returned xs x b (omega arith)

  -- the closure was asked for the first i items, and is q now; the others are left, and those that are kept follow them
  pub record Asked (old : List T) (f : P) (i : ℕ) (items : List T) (q : P) : Type 0 where
    returned : List Bool
    as_many : length returned ≡ length (take i old)
    calls : ReturnsInTurn R f returned (take i old) q
    in_turn : items ≡ drop i old ++ items_where_true returned (take i old)

  pub Asked-start : (old : List T) (f : P) → Asked old f 0 old f
  Asked-start old f = record { returned = []; as_many = refl; calls = refl; in_turn = sym (append-nil old) }

  module _ (old : List T) (f : P) (i : ℕ) (items : List T) (q : P) (asked : Asked old f i items q) where
    pub Asked-end : length old ≤ i → IsFiltered R f old items
    Asked-end end =
        let all = take_all i old end in (
          asked.returned,
          q,
          asked.as_many ∙ ap length all,
          subst (λ xs. ReturnsInTurn R f asked.returned xs q) all asked.calls,
          asked.in_turn ∙ ap₂ (λ left xs. left ++ items_where_true asked.returned xs) (drop_all i old end) all,
        )

    pub Asked-more : i < length old → 0 < length items
    Asked-more more =
        let kept = items_where_true asked.returned (take i old) in
        let whole = ap length asked.in_turn ∙ length-append (drop i old) kept in
        let left = length-drop i old in
        omega (arith, whole, left)

    module _ (x : T) (more : i < length old) (front : slice_get items 0 ≡ Some x) where
      abbrev kept : List T
      kept = items_where_true asked.returned (take i old)

      is_front : get_or old i x ≡ x
      is_front =
          let first : slice_get ((get_or old i x ∷ drop (i + 1) old) ++ kept) 0 ≡ Some x =
          ap (λ left. slice_get (left ++ kept) 0) (sym (drop_more old i x more)) ∙ ap (λ xs. slice_get xs 0) (sym asked.in_turn) ∙ front in
          cc

      -- the item that is asked for next
      pub Asked-item : drop i old ≡ x ∷ drop (i + 1) old
      Asked-item = drop_more old i x more ∙ ap (λ y. y ∷ drop (i + 1) old) is_front

      pub Asked-next : (b : Bool) (u : P) → R q x b u → Asked old f (i + 1) (if b then push (drop 1 items) x else drop 1 items) u
      Asked-next b u call =
          let one_more : take (i + 1) old ≡ take i old ++ x ∷ [] = take_more old i x more ∙ ap (λ y. take i old ++ y ∷ []) is_front in
          let rest : drop 1 items ≡ drop (i + 1) old ++ kept = ap (drop 1) asked.in_turn ∙ ap (λ left. drop 1 (left ++ kept)) Asked-item in
          let back : (if b then push (drop 1 items) x else drop 1 items) ≡ drop 1 items ++ (if b then x ∷ [] else []) = at_back b in
          record {
            returned = asked.returned ++ b ∷ [];
            as_many = length-append asked.returned (b ∷ []) ∙ ap (λ n. n + 1) asked.as_many ∙ sym (length-append (take i old) (x ∷ [])) ∙ ap length (sym one_more);
            calls = subst (λ xs. ReturnsInTurn R f (asked.returned ++ b ∷ []) xs u) (sym one_more) (ReturnsInTurn-push asked.returned (take i old) f q u x b asked.as_many asked.calls call);
            in_turn = back
                ∙ ap (λ xs. xs ++ (if b then x ∷ [] else [])) rest
                ∙ append_assoc (drop (i + 1) old) kept _
                ∙ ap (λ xs. drop (i + 1) old ++ xs) (sym (items_where_true-push asked.returned (take i old) x b asked.as_many) ∙ ap (items_where_true (asked.returned ++ b ∷ [])) (sym one_more));
          }
        where
          at_back : (b : Bool) → (if b then push (drop 1 items) x else drop 1 items) ≡ drop 1 items ++ (if b then x ∷ [] else [])
          at_back true = refl
          at_back false = sym (append-nil (drop 1 items))

module _ {F T : Type 0} (calls : Mut F (MutBor T × Unit {0}) ((Unit {0}) × (MutBor T × Unit {0}))) (change : T → T) (f : F) where
  -- what a closure that changes no capture, and each item in one way, makes of the items
  pub ChangesInTurn-map : ((x y : T) (next : F) → CalledAtMut calls f x tt next y → (y ≡ change x) × (next ≡ f)) → (xs ys : List T) (last : F) → ChangesInTurn calls f xs ys last → ys ≡ map change xs
  ChangesInTurn-map one [] [] last changes = refl
  ChangesInTurn-map one [] (y ∷ ys) last changes = absurd changes
  ChangesInTurn-map one (x ∷ xs) [] last changes = absurd changes
  ChangesInTurn-map one (x ∷ xs) (y ∷ ys) last (next, called, changes) =
      let same = one x y next called in
      ap₂ (λ z zs. z ∷ zs) same.0 (ChangesInTurn-map one xs ys last (subst (λ g. ChangesInTurn calls g xs ys last) same.1 changes))

module _ {F T R : Type 0} (calls : Mut F (Bor T × Unit {0}) R) where
  always_after : (xs : List T) (f last : F) → FoldsTo (λ p x q. (r : R) × CalledAt calls p x r q) f xs last → always_mut calls f → always_mut calls last
  always_after [] f last same always = subst (always_mut calls) same always
  always_after (x ∷ xs) f last (next, (r, call), rest) always =
      always_after xs next last rest (mut_next calls f (call.shown, tt) r next next call.called refl always)

  -- a closure that may always be called may be called with each item
  pub IsCallableOnEach-always : (items : List T) (f : F) → always_mut calls f → IsCallableOnEach calls items f
  IsCallableOnEach-always items f always =
      record { at = λ xs left q x rest yields folds comes shown is. ((always_after xs f q folds always).at ((shown, tt) ∷ [])).0 }

module _ {F T : Type 0} (calls : Mut F (MutBor T × Unit {0}) ((Unit {0}) × (MutBor T × Unit {0}))) where
  always_after_mut : (xs : List T) (f last : F) → FoldsTo (λ p x q. (y : T) × CalledAtMut calls p x tt q y) f xs last → always_mut calls f → always_mut calls last
  always_after_mut [] f last same always = subst (always_mut calls) same always
  always_after_mut (x ∷ xs) f last (next, (y, call), rest) always =
      always_after_mut xs next last rest (mut_next calls f (call.shown, tt) (tt, (call.left, tt)) next next call.called refl always)

  pub IsCallableOnEachMut-always : (items : List T) (f : F) → always_mut calls f → IsCallableOnEachMut calls items f
  IsCallableOnEachMut-always items f always =
      record { at = λ xs left q x rest yields folds comes shown is. ((always_after_mut xs f q folds always).at ((shown, tt) ∷ [])).0 }
