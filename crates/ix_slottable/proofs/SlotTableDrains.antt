-- A slot table that is drained.
use Rattle.std.proofs.Common.{◌≡◌, ℕ, zero, suc, ◌+◌, ◌-◌, ◌<◌, ◌≤◌, inl, inr, List, [], ◌∷◌, length, drop, Bool, true, false, Option, Some, None, refl, sym, ap, ◌∙◌, subst, arith}
use Rattle.std.specs.Prelude.{replicate, if◌then◌else◌, is_some, count_by}
use Rattle.std.specs.List.{fold, range_with_len}
use Rattle.std.proofs.lemmas.Bool.{cases_eq, cases_Bool}
use Rattle.std.proofs.lemmas.List.Sums.{sum_by-cons}
use Rattle.ix_tables.specs.Places.{place_at}
use Rattle.ix_slottable.specs.SlotTableState.{SlotTableState, value_at, held_count, entries_from}
use Rattle.ix_slottable.specs.SlotTableSteps.{slot_table_vacate, slot_table_remove, slot_table_clear, SlotTableRemove}
use Rattle.std.proofs.lemmas.List.{drop_more, drop-set-lt}
use Rattle.ix_slottable.proofs.Entries.{count_by-is_some, entries_from-none}
use Rattle.ix_tables.proofs.VacantTables.{place_at-replicate}
use Rattle.ix_slottable.proofs.SlotTableCalls.{fold-range_with_len, length-slot_table_remove}
use Rattle.ix_tables.proofs.Places.{place_at_within}

module _ {X : Type 0} (f : X → ℕ → X) where
  -- steps that change nothing
  fold-stays : (x : X) (n : ℕ) → ((k : ℕ) → k < n → f x k ≡ x) → fold f x (range_with_len 0 n) ≡ x
  fold-stays x zero same = refl
  fold-stays x (suc n) same =
      let next : suc n ≡ n + 1 = omega arith in
      ap (λ k. fold f x (range_with_len 0 k)) next
      ∙ fold-range_with_len f x n
      ∙ ap (λ y. f y n) (fold-stays x n (λ k below. same k (omega arith)))
      ∙ same n (omega arith)

  fold-later : (x y : X) (n m : ℕ) → fold f x (range_with_len 0 n) ≡ fold f y (range_with_len 0 n) → fold f x (range_with_len 0 (n + m)) ≡ fold f y (range_with_len 0 (n + m))
  fold-later x y n zero same = let none : n + 0 ≡ n = omega arith in ap (λ k. fold f x (range_with_len 0 k)) none ∙ same ∙ sym (ap (λ k. fold f y (range_with_len 0 k)) none)
  fold-later x y n (suc m) same =
      let next : n + suc m ≡ (n + m) + 1 = omega arith in
      ap (λ k. fold f x (range_with_len 0 k)) next
      ∙ fold-range_with_len f x (n + m)
      ∙ ap (λ z. f z (n + m)) (fold-later x y n m same)
      ∙ sym (ap (λ k. fold f y (range_with_len 0 k)) next ∙ fold-range_with_len f y (n + m))

  -- the first step that changes anything may as well be taken before
  pub fold-first : (x : X) (n len : ℕ) → n < len → ((k : ℕ) → k < n → f x k ≡ x) → ((k : ℕ) → k < n + 1 → f (f x n) k ≡ f x n) → fold f (f x n) (range_with_len 0 len) ≡ fold f x (range_with_len 0 len)
  fold-first x n len below before after =
      let all : len ≡ (n + 1) + (len - (n + 1)) = omega arith in
      let here = fold-stays (f x n) (n + 1) after ∙ sym (fold-range_with_len f x n ∙ ap (λ y. f y n) (fold-stays x n before)) in
      ap (λ k. fold f (f x n) (range_with_len 0 k)) all
      ∙ fold-later (f x n) x (n + 1) (len - (n + 1)) here
      ∙ sym (ap (λ k. fold f x (range_with_len 0 k)) all)

module _ {T : Type 0} where
  module _ (test : Option T → Bool) where
    count_by-cons : (place : Option T) (places : List (Option T)) → count_by test (place ∷ places) ≡ (if test place then 1 else 0) + count_by test places
    count_by-cons place places = sum_by-cons (λ p. if test p then 1 else 0) place places

    count_by-drop_le : (places : List (Option T)) (n : ℕ) → count_by test (drop n places) ≤ count_by test places
    count_by-drop_le places zero = omega arith
    count_by-drop_le [] (suc n) = let none : count_by test (drop (suc n) (let places : List (Option T) = [] in places)) ≡ count_by test (let places : List (Option T) = [] in places) = refl in omega (arith, none)
    count_by-drop_le (place ∷ places) (suc n) =
        let one = count_by-cons place places in
        let rest = count_by-drop_le places n in omega (arith, one, rest)

    -- where all that pass are from n on, none is before
    pub none_before : test None ≡ false → (places : List (Option T)) (n : ℕ) → count_by test places ≡ count_by test (drop n places) → (i : ℕ) → i < n → test (place_at places i) ≡ false
    none_before absent [] n all i below = absent
    none_before absent (place ∷ places) zero all i below = absurd (omega arith)
    none_before absent (place ∷ places) (suc n) all i below = elim (cases_Bool (test place)) [
      | inl passes ↦
          let one = count_by-cons place places ∙ ap (λ b. (if b then 1 else 0) + count_by test places) passes in
          let most = count_by-drop_le places n in absurd (omega (arith, one, most, all))
      | inr not ↦
          let here : count_by test (place ∷ places) ≡ 0 + count_by test places = count_by-cons place places ∙ ap (λ b. (if b then 1 else 0) + count_by test places) not in
          let later : count_by test (place ∷ places) ≡ count_by test (drop n places) = all in
          first_or_later i below not (λ k less. none_before absent places n (omega (arith, here, later)) k less)
    ]
      where
        first_or_later : (i : ℕ) → i < suc n → test place ≡ false → ((k : ℕ) → k < n → test (place_at places k) ≡ false) → test (place_at (place ∷ places) i) ≡ false
        first_or_later zero below not later = not
        first_or_later (suc k) below not later = later k (omega arith)

  pub none_of : (content : Option T) → is_some content ≡ false → content ≡ None
  none_of None absent = refl
  none_of (Some x) absent = absurd (cc)

  slot_table_remove-free : (s : SlotTableState T) (key : ℕ) → value_at s key ≡ None → slot_table_remove s key ≡ s
  slot_table_remove-free s key none = ap (λ content. if is_some content then slot_table_vacate s key else s) none

  -- the least held key is removed, and the rest after it
  pub slot_table_clear-next : (s new : SlotTableState T) (start number : ℕ) (value : T) → held_count s ≡ length (entries_from start (drop start s.values))
      → entries_from number (drop number s.values) ≡ entries_from start (drop start s.values) → SlotTableRemove s number new (Some value) → slot_table_clear new ≡ slot_table_clear s
  slot_table_clear-next s new start number value counted same step =
      let below = place_at_within s.values number value (sym step.value) in
      let all = counted ∙ ap length (sym same) ∙ sym (count_by-is_some number (drop number s.values)) in
      let before : (k : ℕ) → k < number → slot_table_remove s k ≡ s = λ k less. slot_table_remove-free s k (none_of (value_at s k) (none_before is_some refl s.values number all k less)) in
      let gone : (k : ℕ) → k < number + 1 → value_at new k ≡ None = λ k less. elim (cases_eq k number) [
        | inl here ↦ ap (value_at new) here ∙ step.gone
        | inr there ↦ step.kept k there ∙ none_of (value_at s k) (none_before is_some refl s.values number all k (omega arith))
      ] in
      let after : (k : ℕ) → k < number + 1 → slot_table_remove (slot_table_remove s number) k ≡ slot_table_remove s number =
      λ k less. subst (λ (t : SlotTableState T). slot_table_remove t k ≡ t) step.map (slot_table_remove-free new k (gone k less)) in
      ap slot_table_clear step.map
      ∙ ap (λ n. fold slot_table_remove (slot_table_remove s number) (range_with_len 0 n)) (length-slot_table_remove s number)
      ∙ fold-first slot_table_remove s number (length s.values) below before after

  -- the least held key is the first of the items, and those after it are the rest
  pub next_item : (s new : SlotTableState T) (start number : ℕ) (value : T) → entries_from number (drop number s.values) ≡ entries_from start (drop start s.values) → SlotTableRemove s number new (Some value)
      → entries_from start (drop start s.values) ≡ (number, value) ∷ entries_from (number + 1) (drop (number + 1) new.values)
  next_item s new start number value same step =
      let below = place_at_within s.values number value (sym step.value) in
      let left : drop (number + 1) new.values ≡ drop (number + 1) s.values = ap (λ (t : SlotTableState T). drop (number + 1) t.values) step.map ∙ rest (is_some (value_at s number)) in
      sym same
      ∙ ap (entries_from number) (drop_more s.values number None below)
      ∙ ap (λ (place : Option T). entries_from number (place ∷ drop (number + 1) s.values)) (sym step.value)
      ∙ ap (λ places. (number, value) ∷ entries_from (number + 1) places) (sym left)
    where
      rest : (b : Bool) → drop (number + 1) (if b then slot_table_vacate s number else s).values ≡ drop (number + 1) s.values
      rest true = drop-set-lt (number + 1) s.values number None (omega arith)
      rest false = refl

  -- nothing is to come of an empty table
  pub counted-vacant : (s : SlotTableState T) (n start : ℕ) → s.values ≡ replicate n None → held_count s ≡ length (entries_from start (drop start s.values))
  counted-vacant s n start none =
      let at : (i : ℕ) → place_at s.values i ≡ None = λ i. ap (λ places. place_at places i) none ∙ place_at-replicate n i in
      count_by-is_some 0 s.values
      ∙ ap length (entries_from-none 0 0 s.values (λ i past. at i))
      ∙ sym (ap length (entries_from-none start start s.values (λ i past. at i)))
