-- A list whose items are asked about in turn: those that are kept move to its front.
use Rattle.std.proofs.Common.{◌≡◌, ℕ, ◌+◌, ◌-◌, ◌<◌, ◌≤◌, List, [], ◌∷◌, ◌++◌, length, take, drop, set, get_or, slice_get, Bool, true, false, not, Some, inl, inr, refl, sym, ap, ap₂, ◌∙◌, subst, arith}
use Rattle.std.specs.Prelude.{if◌then◌else◌}
use Rattle.std.specs.List.{items_where_true, swap}
use Rattle.std.specs.List.Retain.{DiffersFromLast, IsFiltered, ReturnsInTurn}
use Rattle.std.proofs.lemmas.Bool.{cases_lt}
use Rattle.std.proofs.lemmas.Grind.{common_steps}
use Rattle.std.proofs.lemmas.List.{append-nil, append_assoc, drop_more, length-append, take_all, take_more}
use Rattle.std.proofs.lemmas.Option.{get_or_from_slice_get}

flips : (a b : Bool) → b ≡ not a → a ≡ not b
flips true b is = sym (ap not is)
flips false b is = sym (ap not is)

module _ {T : Type 0} where
  slice_get-behind : (ks : List T) (o : T) (rest : List T) → slice_get (ks ++ o ∷ rest) (length ks) ≡ Some o
  slice_get-behind [] o rest = refl
  slice_get-behind (k ∷ ks) o rest = slice_get-behind ks o rest

  set-behind : (ks : List T) (o y : T) (rest : List T) → set (ks ++ o ∷ rest) (length ks) y ≡ ks ++ y ∷ rest
  set-behind [] o y rest = refl
  set-behind (k ∷ ks) o y rest = ap (λ xs. k ∷ xs) (set-behind ks o y rest)

  swap-set : (xs : List T) (i j : ℕ) (x y : T) → slice_get xs i ≡ Some x → slice_get xs j ≡ Some y → swap xs i j ≡ set (set xs i y) j x
  swap-set [] i j x y at_i at_j = absurd cc
  swap-set (d ∷ xs) i j x y at_i at_j =
      ap₂ (λ a b. set (set (d ∷ xs) i a) j b) (get_or_from_slice_get (d ∷ xs) j y d at_j) (get_or_from_slice_get (d ∷ xs) i x d at_i)

  -- the item x behind `others` changes its place with the first of them
  abbrev Moves : List T → List T → T → List T → List T → Type 0
  Moves ks others x rest later =
      (swap (ks ++ (others ++ x ∷ rest)) (length ks) (length ks + length others) ≡ (ks ++ x ∷ []) ++ (later ++ rest))
      × (length later ≡ length others)

  swap-to_front : (ks others : List T) (x : T) (rest : List T) → (later : List T) × Moves ks others x rest later
  swap-to_front ks [] x rest =
      let here : length ks + 0 ≡ length ks = omega arith in
      let at = slice_get-behind ks x rest in
      let twice = ap (λ xs. set xs (length ks) x) (set-behind ks x x rest) ∙ set-behind ks x x rest in (
        [],
        (ap (swap (ks ++ x ∷ rest) (length ks)) here ∙ swap-set (ks ++ x ∷ rest) (length ks) (length ks) x x at at ∙ twice ∙ sym (append_assoc ks (x ∷ []) rest), refl),
      )
  swap-to_front ks (o ∷ others) x rest =
      let front = ks ++ o ∷ others in
      let list = ks ++ (o ∷ (others ++ x ∷ rest)) in
      let there : length ks + length (o ∷ others) ≡ length front = sym (length-append ks (o ∷ others)) in
      let same : list ≡ front ++ x ∷ rest = sym (append_assoc ks (o ∷ others) (x ∷ rest)) in
      let at_o = slice_get-behind ks o (others ++ x ∷ rest) in
      let at_x = ap (λ xs. slice_get xs (length front)) same ∙ slice_get-behind front x rest in
      let once : set list (length ks) x ≡ (ks ++ x ∷ others) ++ x ∷ rest = set-behind ks o x (others ++ x ∷ rest) ∙ sym (append_assoc ks (x ∷ others) (x ∷ rest)) in
      let long : length front ≡ length (ks ++ x ∷ others) = length-append ks (o ∷ others) ∙ sym (length-append ks (x ∷ others)) in
      let twice = ap₂ (λ xs n. set xs n o) once long ∙ set-behind (ks ++ x ∷ others) x o rest in
      let parts : (ks ++ x ∷ others) ++ o ∷ rest ≡ (ks ++ x ∷ []) ++ ((others ++ o ∷ []) ++ rest) = grind (arith, common_steps) in (
        others ++ o ∷ [],
        (ap (swap list (length ks)) there ∙ swap-set list (length ks) (length front) o x at_o at_x ∙ twice ∙ parts, length-append others (o ∷ []) ∙ omega arith),
      )

  drop-take : (items : List T) (k : ℕ) (d : T) → k < length items → drop k (take (k + 1) items) ≡ get_or items k d ∷ []
  drop-take items k d below = ap (drop k) (take_more items k d below) ∙ behind (take k items) (get_or items k d) k (grind (arith, common_steps))
    where
      behind : (xs : List T) (y : T) (n : ℕ) → n ≡ length xs → drop n (xs ++ y ∷ []) ≡ y ∷ []
      behind xs y n is = grind (arith, common_steps)

  -- `dedup` asks what the comparison with the last of the first `kept` items says
  module _ (E : T → T → Bool) (items : List T) (x : T) (u : List T) where
    some_kept : (y : T) (b : Bool) → b ≡ not (E x y) → (b ≡ true → u ≡ x ∷ []) → (b ≡ false → u ≡ y ∷ []) → DiffersFromLast E (y ∷ []) x b u
    some_kept y true is new same = (flips (E x y) true is, new refl)
    some_kept y false is new same = (flips (E x y) false is, same refl)

    pub DiffersFromLast-kept : (kept : ℕ) (b : Bool) → kept ≤ length items → (kept ≡ 0 → b ≡ true) → (0 < kept → b ≡ not (E x (get_or items (kept - 1) x)))
        → (b ≡ true → u ≡ x ∷ []) → (b ≡ false → u ≡ drop (kept - 1) (take kept items)) → DiffersFromLast E (drop (kept - 1) (take kept items)) x b u
    DiffersFromLast-kept kept b within none some new same = elim (cases_lt 0 kept) [
      | inl pos ↦
          let more : kept ≡ kept - 1 + 1 = omega (arith, pos) in
          let one : drop (kept - 1) (take kept items) ≡ get_or items (kept - 1) x ∷ [] =
          ap (λ n. drop (kept - 1) (take n items)) more ∙ drop-take items (kept - 1) x (omega (arith, pos, within)) in
          subst (λ q. DiffersFromLast E q x b u) (sym one) (some_kept (get_or items (kept - 1) x) b (some pos) new (λ is. same is ∙ one))
      | inr none_kept ↦
          let zero_kept : kept ≡ 0 = omega (arith, none_kept) in
          let empty : drop (kept - 1) (take kept items) ≡ [] = ap (λ n. drop (n - 1) (take n items)) zero_kept in
          subst (λ q. DiffersFromLast E q x b u) (sym empty) (none zero_kept, new (none zero_kept))
    ]

module _ {T P : Type 0} (R : P → T → Bool → P → Type 0) where
  pub ReturnsInTurn-push : (returned : List Bool) (xs : List T) (p q u : P) (x : T) (b : Bool) → length returned ≡ length xs → ReturnsInTurn R p returned xs q → R q x b u → ReturnsInTurn R p (returned ++ b ∷ []) (xs ++ x ∷ []) u
  ReturnsInTurn-push [] [] p q u x b same calls call = (u, subst (λ s. R s x b u) (sym calls) call, refl)
  ReturnsInTurn-push [] (y ∷ xs) p q u x b same calls call = absurd (omega arith)
  ReturnsInTurn-push (a ∷ returned) [] p q u x b same calls call = absurd calls
  ReturnsInTurn-push (a ∷ returned) (y ∷ xs) p q u x b same (next, first, calls) call =
      (next, first, ReturnsInTurn-push returned xs next q u x b (omega arith) calls call)

  pub items_where_true-push : (returned : List Bool) (xs : List T) (x : T) (b : Bool) → length returned ≡ length xs → items_where_true (returned ++ b ∷ []) (xs ++ x ∷ []) ≡ items_where_true returned xs ++ (if b then x ∷ [] else [])
  items_where_true-push [] [] x true same = refl
  items_where_true-push [] [] x false same = refl
  items_where_true-push [] (y ∷ xs) x b same = absurd (omega arith)
  items_where_true-push (a ∷ returned) [] x b same = absurd (omega arith)
  items_where_true-push (true ∷ returned) (y ∷ xs) x b same = ap (λ ys. y ∷ ys) (items_where_true-push returned xs x b (omega arith))
  items_where_true-push (false ∷ returned) (y ∷ xs) x b same = items_where_true-push returned xs x b (omega arith)

  -- the first i items were asked about: those that are kept come first, then the others of them, then the rest
  pub record AreInFront (old : List T) (f : P) (i : ℕ) (items : List T) (kept : ℕ) (q : P) : Type 0 where
    returned : List Bool
    as_many : length returned ≡ length (take i old)
    calls : ReturnsInTurn R f returned (take i old) q
    others : List T
    parts : items ≡ items_where_true returned (take i old) ++ (others ++ drop i old)
    count : kept ≡ length (items_where_true returned (take i old))
    asked : kept + length others ≡ i

  pub AreInFront-start : (old : List T) (f : P) → AreInFront old f 0 old 0 f
  AreInFront-start old f = record { returned = []; as_many = refl; calls = refl; others = []; parts = refl; count = refl; asked = refl }

  module _ (old : List T) (f : P) (i : ℕ) (items : List T) (kept : ℕ) (q : P) (are : AreInFront old f i items kept q) where
    abbrev front : List T
    front = items_where_true are.returned (take i old)

    pub AreInFront-order : kept ≤ i
    AreInFront-order = let asked = are.asked in omega (arith, asked)

    pub AreInFront-kept : take kept items ≡ front
    AreInFront-kept = rw (are.parts, are.count) (grind (arith, common_steps))

    pub AreInFront-end : length old ≤ i → IsFiltered R f old (take kept items)
    AreInFront-end end =
        let all = take_all i old end in (
          are.returned,
          q,
          are.as_many ∙ ap length all,
          subst (λ xs. ReturnsInTurn R f are.returned xs q) all are.calls,
          AreInFront-kept ∙ ap (items_where_true are.returned) all,
        )

    module _ (x : T) (more : i < length old) (at : get_or items i x ≡ x) where
      same_item : (ks others rest : List T) (n : ℕ) → n ≡ length ks + length others → get_or (ks ++ (others ++ rest)) n x ≡ get_or rest 0 x
      same_item ks others rest n is = grind (arith, common_steps)

      is_item : get_or old i x ≡ x
      is_item =
          let asked = are.asked in
          let count = are.count in
          let first : get_or (drop i old) 0 x ≡ get_or old i x = grind (arith, common_steps) in
          sym first ∙ sym (same_item front are.others (drop i old) i (omega (arith, asked, count))) ∙ ap (λ xs. get_or xs i x) (sym are.parts) ∙ at

      -- the item that is asked about next
      pub AreInFront-item : drop i old ≡ x ∷ drop (i + 1) old
      AreInFront-item = drop_more old i x more ∙ ap (λ y. y ∷ drop (i + 1) old) is_item

      one_more : take (i + 1) old ≡ take i old ++ x ∷ []
      one_more = take_more old i x more ∙ ap (λ y. take i old ++ y ∷ []) is_item

      counted : (b : Bool) → length (are.returned ++ b ∷ []) ≡ length (take (i + 1) old)
      counted b = length-append are.returned (b ∷ []) ∙ ap (λ n. n + 1) are.as_many ∙ sym (length-append (take i old) (x ∷ [])) ∙ ap length (sym one_more)

      called : (b : Bool) (u : P) → R q x b u → ReturnsInTurn R f (are.returned ++ b ∷ []) (take (i + 1) old) u
      called b u call = subst (λ xs. ReturnsInTurn R f (are.returned ++ b ∷ []) xs u) (sym one_more) (ReturnsInTurn-push are.returned (take i old) f q u x b are.as_many are.calls call)

      chosen : (b : Bool) → items_where_true (are.returned ++ b ∷ []) (take (i + 1) old) ≡ front ++ (if b then x ∷ [] else [])
      chosen b = ap (items_where_true (are.returned ++ b ∷ [])) one_more ∙ items_where_true-push are.returned (take i old) x b are.as_many

      whole : items ≡ front ++ (are.others ++ x ∷ drop (i + 1) old)
      whole = are.parts ∙ ap (λ left. front ++ (are.others ++ left)) AreInFront-item

      pub AreInFront-drops : (u : P) → R q x false u → AreInFront old f (i + 1) items kept u
      AreInFront-drops u call =
          let asked = are.asked in
          let same : items_where_true (are.returned ++ false ∷ []) (take (i + 1) old) ≡ front = chosen false ∙ append-nil front in
          record {
            returned = are.returned ++ false ∷ [];
            as_many = counted false;
            calls = called false u call;
            others = are.others ++ x ∷ [];
            parts = whole ∙ ap₂ (λ ks left. ks ++ left) (sym same) (sym (append_assoc are.others (x ∷ []) (drop (i + 1) old)));
            count = are.count ∙ ap length (sym same);
            asked = omega (arith, asked, length-append are.others (x ∷ []));
          }

      moved_to_front : (later : List T) × Moves front are.others x (drop (i + 1) old) later
      moved_to_front = swap-to_front front are.others x (drop (i + 1) old)

      swapped : swap items kept i ≡ (front ++ x ∷ []) ++ (moved_to_front.0 ++ drop (i + 1) old)
      swapped =
          let asked = are.asked in
          let count = are.count in
          let there : i ≡ length front + length are.others = omega (arith, asked, count) in
          ap (λ xs. swap xs kept i) whole ∙ ap₂ (swap (front ++ (are.others ++ x ∷ drop (i + 1) old))) count there ∙ moved_to_front.1.0

      -- the item is the last that is kept then
      pub AreInFront-last : drop kept (take (kept + 1) (swap items kept i)) ≡ x ∷ []
      AreInFront-last = ap (λ xs. drop kept (take (kept + 1) xs)) swapped ∙ last_kept front (moved_to_front.0 ++ drop (i + 1) old) kept are.count
        where
          last_kept : (ks rest : List T) (n : ℕ) → n ≡ length ks → drop n (take (n + 1) ((ks ++ x ∷ []) ++ rest)) ≡ x ∷ []
          last_kept ks rest n is = grind (arith, common_steps)

      pub AreInFront-keeps : (u : P) → R q x true u → AreInFront old f (i + 1) (swap items kept i) (kept + 1) u
      AreInFront-keeps u call =
          let asked = are.asked in
          let count = are.count in
          let later = moved_to_front.0 in
          let long = moved_to_front.1.1 in
          record {
            returned = are.returned ++ true ∷ [];
            as_many = counted true;
            calls = called true u call;
            others = later;
            parts = swapped ∙ ap (λ ks. ks ++ (later ++ drop (i + 1) old)) (sym (chosen true));
            count = ap (λ n. n + 1) count ∙ sym (length-append front (x ∷ [])) ∙ ap length (sym (chosen true));
            asked = omega (arith, asked, long);
          }
