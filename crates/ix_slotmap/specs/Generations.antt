-- A slot map with generations as contracts see it: each slot is free, holds a value, or is retired, and has a generation.
use Rattle.std.specs.Prelude.{◌≡◌, ℕ, ◌<◌, ◌≤◌, ◌⊎◌, List, [], ◌∷◌, length, map, replicate, nat_eq, if◌then◌else◌, Bool, true, false, Option, Some, None, is_some, count_by, slice_index_or, refl}
use Rattle.std.specs.Option.{option_flatten}
use Rattle.std.specs.List.Sorted.{IsStrictlyIncreasing}
use Rattle.std.specs.Map.{lookup}
use Rattle.std.specs.Coded.{Coded, code_by, coded×, coded_ℕ, coded_list}
use Rattle.ix_slottable.specs.SlotTableState.{SlotTableState, slot_table_state_code, value_at, slot_table_new, entries}

-- a key: the number of a slot, and a generation
pub record SlotKey : Type 0 where
  pub index : ℕ
  pub generation : ℕ

abbrev pub slot_key_eq : SlotKey → SlotKey → Bool
slot_key_eq key other = if nat_eq key.index other.index then nat_eq other.generation key.generation else false

abbrev pub slot_key_code : Coded SlotKey
slot_key_code =
    code_by (ℕ × ℕ) (coded× coded_ℕ coded_ℕ) (λ key. (key.index, key.generation)) (λ p. record { index = p.0; generation = p.1 }) (λ _. refl)

-- the slots, and the generation of each
pub record GenerationState (C : Type 0) : Type 0 where
  pub slots : SlotTableState C
  pub generations : List ℕ

-- a slot is free, has a value in it, or has nothing in it: then it is retired
abbrev pub SlotMapState : Type 0 → Type 0
SlotMapState T = GenerationState (Option T)

abbrev pub generation_state_code : {C : Type 0} → Coded C → Coded (GenerationState C)
generation_state_code {C} code =
    code_by
    (SlotTableState C × List ℕ)
    (coded× (slot_table_state_code code) (coded_list coded_ℕ))
    (λ s. (s.slots, s.generations))
    (λ p. record { slots = p.0; generations = p.1 })
    (λ _. refl)

-- the capacity of a map that has no memory yet, and the generation that its slots will have
pub record SlotMapStart : Type 0 where
  pub capacity : ℕ
  pub generation : ℕ

abbrev pub slot_map_start_code : Coded SlotMapStart
slot_map_start_code =
    code_by (ℕ × ℕ) (coded× coded_ℕ coded_ℕ) (λ s. (s.capacity, s.generation)) (λ p. record { capacity = p.0; generation = p.1 }) (λ _. refl)

-- the default key: no map has a slot of this index
abbrev pub null_key : SlotKey
null_key = record { index = 18446744073709551615; generation = 0 }

-- after this generation a slot is not used again
abbrev pub greatest_generation : ℕ
greatest_generation = 4294967295

module _ {T : Type 0} where
  abbrev pub generation_at : SlotMapState T → ℕ → ℕ
  generation_at s place = slice_index_or s.generations place 0

  -- the key of a slot: its number with its generation
  abbrev pub key_at : SlotMapState T → ℕ → SlotKey
  key_at s place = record { index = place; generation = generation_at s place }

  -- the value in a slot; there is none in a free or retired one, and none past the end
  abbrev pub place_value : SlotMapState T → ℕ → Option T
  place_value s place = option_flatten (value_at s.slots place)

  -- the value of a key: that in its slot, if the slot has the key's generation
  abbrev pub slot_map_value : SlotMapState T → SlotKey → Option T
  slot_map_value s key = if nat_eq (generation_at s key.index) key.generation then place_value s key.index else None

  -- nothing is in the slot, and it is not free
  abbrev pub IsRetired : SlotMapState T → ℕ → Type 0
  IsRetired s place = value_at s.slots place ≡ Some None

  -- a key is dead if its slot is past the end, is retired, or has a greater generation
  abbrev pub IsDead : SlotMapState T → SlotKey → Type 0
  IsDead s key =
      (length s.slots.values ≤ key.index) ⊎ (IsRetired s key.index ⊎ (key.generation < generation_at s key.index))

  abbrev pub is_retired : Option (Option T) → Bool
  is_retired None = false
  is_retired (Some content) = if is_some content then false else true

  abbrev pub retired_count : SlotMapState T → ℕ
  retired_count s = count_by is_retired s.slots.values

  -- the number of held keys
  abbrev pub slot_map_len : SlotMapState T → ℕ
  slot_map_len s = count_by (λ content. is_some (option_flatten content)) s.slots.values

  -- the entries whose slots have a value in them, each the key of its slot and the value
  abbrev pub held_entries : SlotMapState T → List (ℕ × Option T) → List (SlotKey × T)
  held_entries s [] = []
  held_entries s ((place, None) ∷ rest) = held_entries s rest
  held_entries s ((place, Some value) ∷ rest) = (key_at s place, value) ∷ held_entries s rest

  -- the held keys in the order of their slots, each with its value
  abbrev pub slot_map_entries : SlotMapState T → List (SlotKey × T)
  slot_map_entries s = held_entries s (entries s.slots)

  -- every slot is free, and has this generation
  abbrev pub slot_map_new : ℕ → ℕ → SlotMapState T
  slot_map_new capacity generation = record { slots = slot_table_new capacity; generations = replicate capacity generation }

  -- a dead key has no value
  abbrev pub DeadAreNotHeld : SlotMapState T → Type 0
  DeadAreNotHeld s = (key : SlotKey) → IsDead s key → slot_map_value s key ≡ None

  -- in range, without a value, and not retired
  pub record IsUsable (s : SlotMapState T) (place : ℕ) : Type 0 where
    pub within : place < length s.slots.values
    pub empty : place_value s place ≡ None
    pub unretired : IsRetired s place → ⊥

  -- the free list has exactly the slots without a value that are not retired, each once; a retired slot has the greatest
  -- generation
  pub record IsSlotMapFormed (s : SlotMapState T) : Type 0 where
    pub listed_is_usable : (place : ℕ) → 0 < count_by (nat_eq place) s.slots.free → IsUsable s place
    pub usable_is_listed : (place : ℕ) → IsUsable s place → count_by (nat_eq place) s.slots.free ≡ 1
    pub generations : length s.generations ≡ length s.slots.values
    pub retired_is_last : (place : ℕ) → IsRetired s place → generation_at s place ≡ greatest_generation

  -- the indexes of the keys rise
  abbrev pub KeysRise : List (SlotKey × T) → Type 0
  KeysRise items = IsStrictlyIncreasing (map (λ item. item.0.index) items)

  -- a key is listed with its value exactly if it has one
  abbrev pub ListsExactly : List (SlotKey × T) → SlotMapState T → Type 0
  ListsExactly items s = (key : SlotKey) → lookup (slot_key_eq key) items ≡ slot_map_value s key
