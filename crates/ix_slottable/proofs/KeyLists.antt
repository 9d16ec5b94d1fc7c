-- What calls of a container do to a list of its keys that is in step with it.
use Rattle.std.proofs.Common.{◌≡◌, ℕ, ◌+◌, ◌≤◌, List, [], ◌∷◌, ◌++◌, length, Bool, true, false, Option, None, IsSome, inl, inr, refl, sym, ap, ◌∙◌, arith}
use Rattle.std.specs.Prelude.{count_by, cond, if◌then◌else◌, is_some, not}
use Rattle.std.specs.Cmp.{IsEquivalence}
use Rattle.std.proofs.lemmas.Bool.{cases_Bool}
use Rattle.std.proofs.lemmas.List.{length-append}
use Rattle.std.proofs.lemmas.List.Sums.{sum_by-cons, sum_by-append}
use Rattle.ix_slottable.specs.KeyLists.{IsInStep, ListsEach, without, used_last}

abbrev one_if : Bool → ℕ
one_if b = if b then 1 else 0

module _ {K : Type 0} (eq : K → K → Bool) (laws : IsEquivalence eq) where
  count-cons : (key first : K) (keys : List K) → count_by (eq key) (first ∷ keys) ≡ one_if (eq key first) + count_by (eq key) keys
  count-cons key first keys = sum_by-cons _ first keys

  without-equal : (key first : K) (keys : List K) → eq first key ≡ true → without eq key (first ∷ keys) ≡ without eq key keys
  without-equal key first keys equal = ap (λ b. cond (not b) (first ∷ without eq key keys) (without eq key keys)) equal

  without-other : (key first : K) (keys : List K) → eq first key ≡ false → without eq key (first ∷ keys) ≡ first ∷ without eq key keys
  without-other key first keys differs = ap (λ b. cond (not b) (first ∷ without eq key keys) (without eq key keys)) differs

  -- a key is not in the list that is left without it, and any other is there as often as it was
  pub count-without_same : (key other : K) (keys : List K) → eq other key ≡ true → count_by (eq other) (without eq key keys) ≡ 0
  count-without_same key other [] equal = refl
  count-without_same key other (first ∷ keys) equal =
      let rest = count-without_same key other keys equal in elim (cases_Bool (eq first key)) [
        | inl here ↦ ap (count_by (eq other)) (without-equal key first keys here) ∙ rest
        | inr there ↦
            let apart : one_if (eq other first) ≡ 0 = ap one_if (laws.congr other key first equal ∙ (laws.symm key first ∙ there)) in
            let all = count-cons other first (without eq key keys) in
            ap (count_by (eq other)) (without-other key first keys there) ∙ omega (arith, rest, apart, all)
      ]

  pub count-without_other : (key other : K) (keys : List K) → eq other key ≡ false → count_by (eq other) (without eq key keys) ≡ count_by (eq other) keys
  count-without_other key other [] differs = refl
  count-without_other key other (first ∷ keys) differs =
      let rest = count-without_other key other keys differs in
      let was = count-cons other first keys in elim (cases_Bool (eq first key)) [
        | inl here ↦
            let apart : one_if (eq other first) ≡ 0 = ap one_if (laws.symm other first ∙ (laws.congr first key other here ∙ (laws.symm key other ∙ differs))) in
            ap (count_by (eq other)) (without-equal key first keys here) ∙ omega (arith, rest, apart, was)
        | inr there ↦
            let all = count-cons other first (without eq key keys) in
            ap (count_by (eq other)) (without-other key first keys there) ∙ omega (arith, rest, was, all)
      ]

  pub length-without : (key : K) (keys : List K) → length (without eq key keys) + count_by (eq key) keys ≡ length keys
  length-without key [] = refl
  length-without key (first ∷ keys) =
      let rest = length-without key keys in
      let all = count-cons key first keys in elim (cases_Bool (eq first key)) [
        | inl here ↦
            let one : one_if (eq key first) ≡ 1 = ap one_if (laws.symm key first ∙ here) in
            let left = ap length (without-equal key first keys here) in omega (arith, rest, all, one, left)
        | inr there ↦
            let none : one_if (eq key first) ≡ 0 = ap one_if (laws.symm key first ∙ there) in
            let left = ap length (without-other key first keys there) in omega (arith, rest, all, none, left)
      ]

  -- a key that is not there
  pub without-absent : (key : K) (keys : List K) → count_by (eq key) keys ≡ 0 → without eq key keys ≡ keys
  without-absent key [] absent = refl
  without-absent key (first ∷ keys) absent =
      let all = count-cons key first keys in elim (cases_Bool (eq first key)) [
        | inl here ↦ absurd (let one : one_if (eq key first) ≡ 1 = ap one_if (laws.symm key first ∙ here) in omega (arith, all, one, absent))
        | inr there ↦ without-other key first keys there ∙ ap (λ rest. first ∷ rest) (without-absent key keys (omega (arith, all, absent)))
      ]

  -- one key less has room for it at the end
  pub length-used_last : (key : K) (keys : List K) → count_by (eq key) keys ≡ 1 → length (used_last eq key keys) ≡ length keys
  length-used_last key keys once =
      let all = length-without key keys in
      let ends = length-append (without eq key keys) (key ∷ []) in omega (arith, all, ends, once)

  pub count-used_last : (key : K) (keys : List K) → count_by (eq key) keys ≡ 1 → ((a b : K) → eq a b ≡ true → a ≡ b) → (other : K) → count_by (eq other) (used_last eq key keys) ≡ count_by (eq other) keys
  count-used_last key keys once decides other =
      let ends : count_by (eq other) (used_last eq key keys) ≡ count_by (eq other) (without eq key keys) + count_by (eq other) (key ∷ []) = sum_by-append _ (without eq key keys) (key ∷ []) in
      let one = count-cons other key [] in elim (cases_Bool (eq other key)) [
        | inl same ↦
            let is : count_by (eq other) keys ≡ 1 = ap (λ k. count_by (eq k) keys) (decides other key same) ∙ once in
            let none = count-without_same key other keys same in
            let here : one_if (eq other key) ≡ 1 = ap one_if same in omega (arith, ends, one, is, none, here)
        | inr apart ↦
            let kept = count-without_other key other keys apart in
            let there : one_if (eq other key) ≡ 0 = ap one_if apart in omega (arith, ends, one, kept, there)
      ]

  -- keys that are equal are the same: the premises are what calls of containers say
  module _ (decides : (a b : K) → eq a b ≡ true → a ≡ b) {V : Type 0} (find find' : K → Option V) (count count' : ℕ) (keys : List K) where
    -- a new key is inserted, and is the last
    pub IsInStep-inserted : (key : K) → IsInStep eq find count keys → find key ≡ None → IsSome (find' key)
        → ((other : K) → eq other key ≡ false → find' other ≡ find other) → count' ≡ count + 1 → IsInStep eq find' count' (keys ++ key ∷ [])
    IsInStep-inserted key step absent holds kept more = record {
      once = λ other.
          let ends : count_by (eq other) (keys ++ key ∷ []) ≡ count_by (eq other) keys + count_by (eq other) (key ∷ []) = sum_by-append _ keys (key ∷ []) in
          let one = count-cons other key [] in
          let was = step.once other in elim (cases_Bool (eq other key)) [
            | inl same ↦
                let is = decides other key same in
                let none : one_if (is_some (find other)) ≡ 0 = ap (λ k. one_if (is_some (find k))) is ∙ ap (λ o. one_if (is_some o)) absent in
                let some : one_if (is_some (find' other)) ≡ 1 = ap (λ k. one_if (is_some (find' k))) is ∙ ap one_if holds in
                let here : one_if (eq other key) ≡ 1 = ap one_if same in omega (arith, ends, one, was, none, some, here)
            | inr apart ↦
                let there : one_if (eq other key) ≡ 0 = ap one_if apart in
                let found : one_if (is_some (find' other)) ≡ one_if (is_some (find other)) = ap (λ o. one_if (is_some o)) (kept other apart) in omega (arith, ends, one, was, there, found)
          ];
      as_many = let ends = length-append keys (key ∷ []) in let was = step.as_many in omega (arith, ends, was, more);
    }

    -- a key is removed from both
    pub IsInStep-removed : (key : K) → IsInStep eq find count keys → IsSome (find key) → find' key ≡ None
        → ((other : K) → eq other key ≡ false → find' other ≡ find other) → count' + 1 ≡ count → IsInStep eq find' count' (without eq key keys)
    IsInStep-removed key step held gone kept fewer = record {
      once = λ other. elim (cases_Bool (eq other key)) [
        | inl same ↦ count-without_same key other keys same ∙ sym (ap (λ k. one_if (is_some (find' k))) (decides other key same) ∙ ap (λ o. one_if (is_some o)) gone)
        | inr apart ↦ count-without_other key other keys apart ∙ (step.once other ∙ sym (ap (λ o. one_if (is_some o)) (kept other apart)))
      ];
      as_many =
          let all = length-without key keys in
          let was = step.as_many in
          let once : count_by (eq key) keys ≡ 1 = step.once key ∙ ap one_if held in omega (arith, all, was, once, fewer);
    }

    -- the first key is removed from both
    pub IsInStep-popped : (key : K) → IsInStep eq find count (key ∷ keys) → find' key ≡ None
        → ((other : K) → eq other key ≡ false → find' other ≡ find other) → count' + 1 ≡ count → IsInStep eq find' count' keys
    IsInStep-popped key step gone kept fewer = record {
      once = λ other.
          let all = count-cons other key keys in
          let was = step.once other in elim (cases_Bool (eq other key)) [
            | inl same ↦
                let here : one_if (eq other key) ≡ 1 = ap one_if same in
                let none : one_if (is_some (find' other)) ≡ 0 = ap (λ k. one_if (is_some (find' k))) (decides other key same) ∙ ap (λ o. one_if (is_some o)) gone in
                let most : one_if (is_some (find other)) ≤ 1 = at_most (is_some (find other)) in omega (arith, all, was, here, none, most)
            | inr apart ↦
                let there : one_if (eq other key) ≡ 0 = ap one_if apart in
                let found : one_if (is_some (find' other)) ≡ one_if (is_some (find other)) = ap (λ o. one_if (is_some o)) (kept other apart) in omega (arith, all, was, there, found)
          ];
      as_many = let was = step.as_many in omega (arith, was, fewer);
    }
      where
        at_most : (b : Bool) → one_if b ≤ 1
        at_most true = omega arith
        at_most false = omega arith

    -- the same keys are found
    pub IsInStep-kept : IsInStep eq find count keys → ((other : K) → is_some (find' other) ≡ is_some (find other)) → count' ≡ count → IsInStep eq find' count' keys
    IsInStep-kept step same as_many = record {
      once = λ other. step.once other ∙ sym (ap one_if (same other));
      as_many = step.as_many ∙ sym as_many;
    }

    -- the same keys are found, and one is moved to the end
    pub IsInStep-used : (key : K) → IsInStep eq find count keys → IsSome (find key) → ((other : K) → is_some (find' other) ≡ is_some (find other)) → count' ≡ count
        → IsInStep eq find' count' (used_last eq key keys)
    IsInStep-used key step held same as_many =
        let once : count_by (eq key) keys ≡ 1 = step.once key ∙ ap one_if held in record {
          once = λ other. count-used_last key keys once decides other ∙ (step.once other ∙ sym (ap one_if (same other)));
          as_many = length-used_last key keys once ∙ (step.as_many ∙ sym as_many);
        }

  -- a key is put at the end of the list, whatever it finds now
  pub ListsEach-pushed : {V : Type 0} {IsSuch : V → Type 0} {find find' : K → Option V} → (keys : List K) → ListsEach eq IsSuch find keys → (key : K)
      → ((other : K) → eq other key ≡ false → find' other ≡ find other) → ListsEach eq IsSuch find' (keys ++ key ∷ [])
  ListsEach-pushed keys lists key kept other value at such =
      let ends : count_by (eq other) (keys ++ key ∷ []) ≡ count_by (eq other) keys + count_by (eq other) (key ∷ []) = sum_by-append _ keys (key ∷ []) in
      let one = count-cons other key [] in elim (cases_Bool (eq other key)) [
        | inl same ↦ let here : one_if (eq other key) ≡ 1 = ap one_if same in omega (arith, ends, one, here)
        | inr apart ↦ let was = lists other value (sym (kept other apart) ∙ at) such in omega (arith, ends, was)
      ]
