-- Where items stand in a list: the last one that gives a value, and those that are counted.
use Rattle.std.proofs.Common.{◌≡◌, ℕ, zero, suc, ◌+◌, ◌<◌, ◌⊎◌, List, [], ◌∷◌, Option, Some, None, Bool, true, cond, refl, ap, ◌∙◌, subst, inl, inr, arith}
use Rattle.std.specs.List.{count_by, filter_map, cons_option, last_or, slice_get}
use Rattle.std.proofs.lemmas.List.Sums.{sum_by-cons}
use Rattle.std.proofs.lemmas.Bool.{cases_Bool}

module _ {S : Type 0} where
  -- an item that is counted, and that a counted item counts
  pub count_by_item : (test : S → Bool) (xs : List S) → 0 < count_by test xs → (i : ℕ) × (x : S) × (slice_get xs i ≡ Some x) × (test x ≡ true)
  count_by_item test [] some = absurd (omega arith)
  count_by_item test (x ∷ xs) some = elim (cases_Bool (test x)) [
    | inl kept ↦ (0, x, refl, kept)
    | inr passed ↦ let all : count_by test (x ∷ xs) ≡ cond (test x) 1 0 + count_by test xs = sum_by-cons (λ y. cond (test y) 1 0) x xs in
        let none : cond {A = ℕ} (test x) 1 0 ≡ 0 = ap (λ b. cond {A = ℕ} b 1 0) passed in
        let h = count_by_item test xs (omega arith) in
        (suc h.0, h.1, h.2, h.3)
  ]

  pub item_counted : (test : S → Bool) (xs : List S) (i : ℕ) (x : S) → slice_get xs i ≡ Some x → test x ≡ true → 0 < count_by test xs
  item_counted test [] i x e kept = absurd (cc)
  item_counted test (y ∷ xs) zero x e kept =
      let same : y ≡ x = cc in
      let all : count_by test (y ∷ xs) ≡ cond (test y) 1 0 + count_by test xs = sum_by-cons (λ z. cond (test z) 1 0) y xs in
      let one : cond {A = ℕ} (test y) 1 0 ≡ 1 = ap (λ b. cond {A = ℕ} b 1 0) (ap test same ∙ kept) in
      omega arith
  item_counted test (y ∷ xs) (suc i) x e kept =
      let all : count_by test (y ∷ xs) ≡ cond (test y) 1 0 + count_by test xs = sum_by-cons (λ z. cond (test z) 1 0) y xs in
      omega (arith, item_counted test xs i x e kept)

module _ {S B : Type 0} where
  -- no item gives a value
  pub record NothingGiven (give : S → Option B) (xs : List S) (o : Option B) : Type 0 where
    pub is_first : last_or o (filter_map give xs) ≡ o
    pub none : (i : ℕ) (x : S) → slice_get xs i ≡ Some x → give x ≡ None

  -- the last item that gives one
  pub record LastGiven (give : S → Option B) (xs : List S) (o : Option B) : Type 0 where
    pub index : ℕ
    pub item : S
    pub value : B
    pub stands : slice_get xs index ≡ Some item
    pub gives : give item ≡ Some value
    pub is_last : last_or o (filter_map give xs) ≡ Some value
    pub later : (i : ℕ) (x : S) → index < i → slice_get xs i ≡ Some x → give x ≡ None

  none_first : (give : S → Option B) (x : S) (xs : List S) → give x ≡ None → ((i : ℕ) (y : S) → slice_get xs i ≡ Some y → give y ≡ None) → (i : ℕ) (y : S) → slice_get (x ∷ xs) i ≡ Some y → give y ≡ None
  none_first give x xs here rest zero y e = let same : x ≡ y = cc in subst (λ (z : S). give z ≡ None) same here
  none_first give x xs here rest (suc i) y e = rest i y e

  none_later : (give : S → Option B) (x : S) (xs : List S) → ((i : ℕ) (y : S) → slice_get xs i ≡ Some y → give y ≡ None) → (i : ℕ) (y : S) → 0 < i → slice_get (x ∷ xs) i ≡ Some y → give y ≡ None
  none_later give x xs rest zero y above e = absurd (omega arith)
  none_later give x xs rest (suc i) y above e = rest i y e

  none_above : (give : S → Option B) (index : ℕ) (x : S) (xs : List S) → ((i : ℕ) (y : S) → index < i → slice_get xs i ≡ Some y → give y ≡ None) → (i : ℕ) (y : S) → suc index < i → slice_get (x ∷ xs) i ≡ Some y → give y ≡ None
  none_above give index x xs rest zero y above e = absurd (omega arith)
  none_above give index x xs rest (suc i) y above e = rest i y (omega arith) e

  -- it is the last one behind one more item too, where p is what that item leaves of o
  LastGiven-cons : (give : S → Option B) (x : S) (xs : List S) (o p : Option B) → last_or o (filter_map give (x ∷ xs)) ≡ last_or p (filter_map give xs) → LastGiven give xs p → LastGiven give (x ∷ xs) o
  LastGiven-cons give x xs o p same given = record {
    index = suc given.index;
    item = given.item;
    value = given.value;
    stands = given.stands;
    gives = given.gives;
    is_last = same ∙ given.is_last;
    later = none_above give given.index x xs given.later;
  }

  pub last_given : (give : S → Option B) (xs : List S) (o : Option B) → NothingGiven give xs o ⊎ LastGiven give xs o
  last_given give [] o = inl (record { is_first = refl; none = λ i x e. absurd (cc) })
  last_given give (x ∷ xs) o = by_head (give x) refl (λ p. last_given give xs p)
    where
      by_head : (head : Option B) → give x ≡ head → ((p : Option B) → NothingGiven give xs p ⊎ LastGiven give xs p) → NothingGiven give (x ∷ xs) o ⊎ LastGiven give (x ∷ xs) o
      by_head None e rest = elim (rest o) [
        | inl h ↦ inl (record { is_first = ap (λ b. last_or o (cons_option b (filter_map give xs))) e ∙ h.is_first; none = none_first give x xs e h.none })
        | inr h ↦ inr (LastGiven-cons give x xs o o (ap (λ b. last_or o (cons_option b (filter_map give xs))) e) h)
      ]
      by_head (Some value) e rest = elim (rest (Some value)) [
        | inl h ↦ inr (record {
          index = 0;
          item = x;
          value = value;
          stands = refl;
          gives = e;
          is_last = ap (λ b. last_or o (cons_option b (filter_map give xs))) e ∙ h.is_first;
          later = none_later give x xs h.none;
        })
        | inr h ↦ inr (LastGiven-cons give x xs o (Some value) (ap (λ b. last_or o (cons_option b (filter_map give xs))) e) h)
      ]
