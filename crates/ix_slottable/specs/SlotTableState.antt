-- A slot table as contracts see it: for each key its value or nothing, and the free keys in their order.
use Rattle.std.specs.Prelude.{◌≡◌, ℕ, ◌+◌, ◌<◌, List, [], ◌∷◌, length, replicate, nat_eq, Option, Some, None, is_some, count_by, refl}
use Rattle.std.specs.List.{range_with_len}
use Rattle.std.specs.Coded.{Coded, code_by, coded×, coded_ℕ, coded_list, coded_option}
use Rattle.ix_tables.specs.Places.{place_at, IsEmptyAt, IsHeldAt}

pub record SlotTableState (T : Type 0) : Type 0 where
  pub values : List (Option T)
  pub free : List ℕ

-- a slot state is stored as the pair of its parts
abbrev pub slot_table_state_code : {T : Type 0} → Coded T → Coded (SlotTableState T)
slot_table_state_code {T} code =
    code_by
    (List (Option T) × List ℕ)
    (coded× (coded_list (coded_option code)) (coded_list coded_ℕ))
    (λ s. (s.values, s.free))
    (λ p. record { values = p.0; free = p.1 })
    (λ _. refl)

module _ {T : Type 0} where
  -- the value at a key; there is none at a free key, and none at a key out of range
  abbrev pub value_at : SlotTableState T → ℕ → Option T
  value_at s key = place_at s.values key

  -- the key has a value
  abbrev pub IsHeld : SlotTableState T → ℕ → Type 0
  IsHeld s key = IsHeldAt s.values key

  -- the key is in range: below the capacity
  abbrev pub IsKey : SlotTableState T → ℕ → Type 0
  IsKey s key = key < length s.values

  -- the key is in range, and has no value
  abbrev pub IsFree : SlotTableState T → ℕ → Type 0
  IsFree s key = IsEmptyAt s.values key

  -- the free list has exactly the keys that are free, each once
  pub record IsWellFormed (s : SlotTableState T) : Type 0 where
    pub listed_is_free : (key : ℕ) → 0 < count_by (nat_eq key) s.free → IsFree s key
    pub free_is_listed : (key : ℕ) → IsFree s key → count_by (nat_eq key) s.free ≡ 1

  -- no key has a value, and the free keys are 0, 1 and so on
  abbrev pub slot_table_new : ℕ → SlotTableState T
  slot_table_new capacity = record { values = replicate capacity None; free = range_with_len 0 capacity }

  -- the number of keys that have a value
  abbrev pub held_count : SlotTableState T → ℕ
  held_count s = count_by is_some s.values

  -- the keys of these slots that have a value, each with its value; the number is the key of the first slot
  abbrev pub entries_from : ℕ → List (Option T) → List (ℕ × T)
  entries_from key [] = []
  entries_from key (None ∷ places) = entries_from (key + 1) places
  entries_from key (Some value ∷ places) = (key, value) ∷ entries_from (key + 1) places

  -- the held keys in rising order, each with its value
  abbrev pub entries : SlotTableState T → List (ℕ × T)
  entries s = entries_from 0 s.values
