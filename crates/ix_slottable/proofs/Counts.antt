-- How many keys are held and how many are free, after each step of a slot table.
use Rattle.std.proofs.Common.{◌≡◌, ℕ, zero, suc, ◌+◌, ◌<◌, ◌≤◌, inl, inr, List, ◌∷◌, length, set, Bool, true, false, Option, Some, None, IsSome, refl, sym, ap, ◌∙◌, subst, arith}
use Rattle.std.specs.Prelude.{replicate, is_some, if◌then◌else◌, count_by}
use Rattle.std.specs.List.{fold, range_with_len}
use Rattle.std.proofs.lemmas.Bool.{cases_eq, cases_Bool}
use Rattle.std.proofs.lemmas.List.{get_or-set_same, length-append}
use Rattle.std.proofs.lemmas.List.Sums.{sum_by-set}
use Rattle.std.proofs.lemmas.List.Folds.{sum_by-replicate}
use Rattle.ix_tables.specs.Places.{place_at}
use Rattle.ix_tables.proofs.Places.{held_item, held_within, place_at_within}
use Rattle.ix_slottable.specs.SlotTableState.{SlotTableState, value_at, IsHeld, IsFree, IsWellFormed, held_count}
use Rattle.ix_slottable.specs.SlotTableSteps.{keys_without, slot_table_set, slot_table_fill, slot_table_vacate, slot_table_remove, slot_table_clear}
use Rattle.ix_slottable.proofs.Entries.{one_if_held}
use Rattle.ix_slottable.proofs.SlotTables.{IsVacant-from_places}
use Rattle.ix_slottable.proofs.SlotTableCalls.{fold-range_with_len, length-slot_table_remove, value_at-slot_table_remove_other}
use Rattle.ix_slottable.proofs.FreeKeys.{key_count, split_at_key, keys_without-absent}

-- some keys but for one that occurs
length-keys_without : (key : ℕ) (keys : List ℕ) → 0 < key_count key keys → length (keys_without key keys) + 1 ≡ length keys
length-keys_without key keys some =
    let at = split_at_key key keys some in
    let all : length keys ≡ length at.front + length (key ∷ at.back) = ap length at.is ∙ length-append at.front (key ∷ at.back) in
    let left : length (keys_without key keys) ≡ length at.front + length at.back = ap length at.rest ∙ length-append at.front at.back in
    let one : length (key ∷ at.back) ≡ length at.back + 1 = omega arith in omega (arith, all, left, one)

module _ {T : Type 0} where
  pub count_by-set_more : (values : List (Option T)) (key : ℕ) (value : T) → key < length values → place_at values key ≡ None → count_by is_some (set values key (Some value)) ≡ count_by is_some values + 1
  count_by-set_more values key value below empty =
      let all = sum_by-set one_if_held values key (Some value) None below in
      let was : one_if_held (place_at values key) ≡ 0 = ap one_if_held empty in omega arith

  pub count_by-set_same : (values : List (Option T)) (key : ℕ) (old value : T) → key < length values → place_at values key ≡ Some old → count_by is_some (set values key (Some value)) ≡ count_by is_some values
  count_by-set_same values key old value below at =
      let all = sum_by-set one_if_held values key (Some value) None below in
      let was : one_if_held (place_at values key) ≡ 1 = ap one_if_held at in omega arith

  pub count_by-set_less : (values : List (Option T)) (key : ℕ) (old : T) → key < length values → place_at values key ≡ Some old → count_by is_some (set values key None) + 1 ≡ count_by is_some values
  count_by-set_less values key old below at =
      let all = sum_by-set one_if_held values key None None below in
      let was : one_if_held (place_at values key) ≡ 1 = ap one_if_held at in omega arith

  -- a free key that gets a value: one more is held, and one less is free
  pub held_count-slot_table_fill : (s : SlotTableState T) (key : ℕ) (value : T) → IsFree s key → held_count (slot_table_fill s key value) ≡ held_count s + 1
  held_count-slot_table_fill s key value free = count_by-set_more s.values key value free.0 free.1

  pub free-slot_table_fill : (s : SlotTableState T) (key : ℕ) (value : T) → IsWellFormed s → IsFree s key → length (slot_table_fill s key value).free + 1 ≡ length s.free
  free-slot_table_fill s key value formed free = length-keys_without key s.free (let one = formed.free_is_listed key free in omega arith)

  -- a held key that gets another value: as many are held, and the same are free
  pub held_count-slot_table_set : (s : SlotTableState T) (key : ℕ) (old value : T) → value_at s key ≡ Some old → held_count (slot_table_set s key value) ≡ held_count s
  held_count-slot_table_set s key old value at = count_by-set_same s.values key old value (place_at_within s.values key old at) at

  pub held_count-slot_table_fill_held : (s : SlotTableState T) (key : ℕ) (value : T) → IsHeld s key → held_count (slot_table_fill s key value) ≡ held_count s
  held_count-slot_table_fill_held s key value held = let was = held_item (value_at s key) held in held_count-slot_table_set s key was.0 value was.1

  pub free-slot_table_fill_held : (s : SlotTableState T) (key : ℕ) (value : T) → IsWellFormed s → IsHeld s key → (slot_table_fill s key value).free ≡ s.free
  free-slot_table_fill_held s key value formed held = elim (cases_eq (key_count key s.free) 0) [
    | inl none ↦ keys_without-absent key s.free none
    | inr some ↦
        let empty = (formed.listed_is_free key (omega arith)).1 in
        let no : IsSome (let place : Option T = None in place) = subst IsSome empty held in absurd (let wrong : false ≡ true = no in cc)
  ]

  -- no key is held where no place has a value
  pub held_count-replicate : (s : SlotTableState T) (n : ℕ) → s.values ≡ replicate n None → held_count s ≡ 0
  held_count-replicate s n none = ap (count_by is_some) none ∙ sum_by-replicate one_if_held n None ∙ (omega arith)

  -- of two states: no more are held than were, and held and free keys are as many together
  pub record Thins (s new : SlotTableState T) : Type 0 where
    pub count : held_count new ≤ held_count s
    pub sum : held_count new + length new.free ≡ held_count s + length s.free

  pub Thins-refl : (s : SlotTableState T) → Thins s s
  Thins-refl s = record { count = omega arith; sum = refl }

  pub Thins-trans : (s t new : SlotTableState T) → Thins s t → Thins t new → Thins s new
  Thins-trans s t new before after =
      let all = after.sum ∙ before.sum in
      let first = before.count in let second = after.count in record { count = omega (arith, first, second); sum = all }

  pub Thins-slot_table_remove : (s : SlotTableState T) (key : ℕ) → Thins s (slot_table_remove s key)
  Thins-slot_table_remove s key = elim (cases_Bool (is_some (value_at s key))) [
    | inl held ↦
        let was = held_item (value_at s key) held in
        let less = count_by-set_less s.values key was.0 (place_at_within s.values key was.0 was.1) was.1 in
        let one : length (slot_table_vacate s key).free ≡ length s.free + 1 = omega arith in
        subst (λ (b : Bool). Thins s (if b then slot_table_vacate s key else s)) (sym held) (record { count = omega (arith, less); sum = omega (arith, less, one) })
    | inr empty ↦ subst (λ (b : Bool). Thins s (if b then slot_table_vacate s key else s)) (sym empty) (Thins-refl s)
  ]

  -- a held key whose value is written or removed
  pub Thins-retained : (s : SlotTableState T) (key : ℕ) (old left : T) (keep : Bool) (new : SlotTableState T) → value_at s key ≡ Some old → new ≡ (if keep then slot_table_set s key left else slot_table_remove s key) → Thins s new
  Thins-retained s key old left true new at is =
      let same = held_count-slot_table_set s key old left at in subst (Thins s) (sym is) (record { count = omega (arith, same); sum = ap (λ n. n + length s.free) same })
  Thins-retained s key old left false new at is = subst (Thins s) (sym is) (Thins-slot_table_remove s key)

  gone-slot_table_remove : (s : SlotTableState T) (key : ℕ) → value_at (slot_table_remove s key) key ≡ None
  gone-slot_table_remove s key = elim (cases_Bool (is_some (value_at s key))) [
    | inl held ↦
        let below = held_within s.values key held in
        ap (λ (b : Bool). value_at (if b then slot_table_vacate s key else s) key) held ∙ get_or-set_same s.values key None None below
    | inr empty ↦ ap (λ (b : Bool). value_at (if b then slot_table_vacate s key else s) key) empty ∙ none (value_at s key) empty
  ]
    where
      none : (place : Option T) → is_some place ≡ false → place ≡ None
      none None absent = refl
      none (Some x) absent = absurd (cc)

  -- the first keys are removed
  record Cleared (s new : SlotTableState T) (n : ℕ) : Type 0 where
    capacity : length new.values ≡ length s.values
    gone : (key : ℕ) → key < n → value_at new key ≡ None
    thins : Thins s new

  cleared : (s : SlotTableState T) (n : ℕ) → Cleared s (fold slot_table_remove s (range_with_len 0 n)) n
  cleared s zero = record { capacity = refl; gone = λ key below. absurd (omega arith); thins = Thins-refl s }
  cleared s (suc n) =
      let before = fold slot_table_remove s (range_with_len 0 n) in
      let at = cleared s n in
      let next : suc n ≡ n + 1 = omega arith in
      let is = ap (λ k. fold slot_table_remove s (range_with_len 0 k)) next ∙ fold-range_with_len slot_table_remove s n in
      subst (λ new. Cleared s new (suc n)) (sym is) (record {
        capacity = length-slot_table_remove before n ∙ at.capacity;
        gone = λ key below. elim (cases_eq key n) [
          | inl here ↦ ap (value_at (slot_table_remove before n)) here ∙ gone-slot_table_remove before n
          | inr there ↦ value_at-slot_table_remove_other before n key there ∙ at.gone key (omega arith)
        ];
        thins = Thins-trans s before (slot_table_remove before n) at.thins (Thins-slot_table_remove before n);
      })

  pub values-slot_table_clear : (s : SlotTableState T) → (slot_table_clear s).values ≡ replicate (length s.values) None
  values-slot_table_clear s =
      let at = cleared s (length s.values) in
      IsVacant-from_places (slot_table_clear s).values (λ key below. at.gone key (let same = at.capacity in omega arith))
      ∙ ap (λ n. replicate n None) at.capacity

  -- no key is held after all were removed, and every key is free
  pub held_count-slot_table_clear : (s : SlotTableState T) → held_count (slot_table_clear s) ≡ 0
  held_count-slot_table_clear s = held_count-replicate (slot_table_clear s) (length s.values) (values-slot_table_clear s)

  pub free-slot_table_clear : (s : SlotTableState T) → held_count s + length s.free ≡ length s.values → length (slot_table_clear s).free ≡ length s.values
  free-slot_table_clear s all =
      let none = held_count-slot_table_clear s in
      let sum = (cleared s (length s.values)).thins.sum in omega (arith, none, sum, all)
