-- The steps of a slot map with generations: the state after each call, and the contracts of the methods that change a map.
use Rattle.std.specs.Prelude.{◌≡◌, ◌≢◌, ◌↔◌, ◌⊎◌, ℕ, ◌+◌, ◌<◌, ◌≤◌, List, [], length, nat_lt, if◌then◌else◌, Bool, Option, Some, None, IsSome, IsNone, IfSome, is_some, option_map, slice_get, slice_set}
use Rattle.std.specs.List.{fold, range_with_len}
use Rattle.ix_slottable.specs.SlotTableState.{IsFree}
use Rattle.ix_slottable.specs.SlotTableSteps.{slot_table_set, slot_table_fill, slot_table_vacate, slot_table_insert}
use Rattle.ix_slotmap.specs.Generations.{SlotKey, SlotMapState, greatest_generation, generation_at, key_at, place_value, slot_map_value, slot_map_len, IsDead}

module _ {T : Type 0} where
  -- the generation of the slot is raised by one
  abbrev pub generations_raise : SlotMapState T → ℕ → List ℕ
  generations_raise s place = slice_set s.generations place (generation_at s place + 1)

  -- the generation of the slot can still be raised
  abbrev pub is_raisable : SlotMapState T → ℕ → Bool
  is_raisable s place = nat_lt (generation_at s place) greatest_generation

  -- the value in the slot
  abbrev pub slot_map_set_at : SlotMapState T → ℕ → T → SlotMapState T
  slot_map_set_at s place value = record { slots = slot_table_set s.slots place (Some value); generations = s.generations }

  -- the value in the slot of the key
  abbrev pub slot_map_set : SlotMapState T → SlotKey → T → SlotMapState T
  slot_map_set s key value = slot_map_set_at s key.index value

  -- the value in the first free slot, if there is one
  abbrev pub slot_map_insert : SlotMapState T → T → SlotMapState T
  slot_map_insert s value = record { slots = slot_table_insert s.slots (Some value); generations = s.generations }

  -- the value in the slot, which is no longer free
  abbrev pub slot_map_fill : SlotMapState T → ℕ → T → SlotMapState T
  slot_map_fill s place value = record { slots = slot_table_fill s.slots place (Some value); generations = s.generations }

  -- another value in the slot, and the next generation
  abbrev pub slot_map_replace : SlotMapState T → ℕ → T → SlotMapState T
  slot_map_replace s place value = record { slots = slot_table_set s.slots place (Some value); generations = generations_raise s place }

  -- the slot is the first free one, and has the next generation
  abbrev pub slot_map_vacate : SlotMapState T → ℕ → SlotMapState T
  slot_map_vacate s place = record { slots = slot_table_vacate s.slots place; generations = generations_raise s place }

  -- nothing is in the slot, and it is not free
  abbrev pub slot_map_retire : SlotMapState T → ℕ → SlotMapState T
  slot_map_retire s place = record { slots = slot_table_set s.slots place None; generations = s.generations }

  -- the slot of a removed key is used again, if its generation can be raised
  abbrev pub slot_map_remove : SlotMapState T → SlotKey → SlotMapState T
  slot_map_remove s key =
      if is_some (slot_map_value s key) then (if is_raisable s key.index then slot_map_vacate s key.index else slot_map_retire s key.index) else s

  -- the key of the slot is removed, if a value is there
  abbrev pub slot_map_remove_at : SlotMapState T → ℕ → SlotMapState T
  slot_map_remove_at s place = slot_map_remove s (key_at s place)

  -- each held key is removed, that of the least slot first
  abbrev pub slot_map_clear : SlotMapState T → SlotMapState T
  slot_map_clear s = fold slot_map_remove_at s (range_with_len 0 (length s.slots.values))

  -- the contract of `insert` and `insert_counted`
  pub record SlotMapInsert (old : SlotMapState T) (x : T) (new : SlotMapState T) (result : Option SlotKey) : Type 0 where
    pub key : result ≡ option_map (key_at old) (slice_get old.slots.free 0)
    pub map : new ≡ slot_map_insert old x
    pub holds : IfSome result (λ key. slot_map_value new key ≡ Some x)
    pub was_free : IfSome result (λ key. IsFree old.slots key.index)
    pub full : IsNone result ↔ (old.slots.free ≡ [])
    pub refused : IsNone result → new ≡ old
    pub kept : (key : SlotKey) → IsSome (slot_map_value old key) → slot_map_value new key ≡ slot_map_value old key
    pub dead : (key : SlotKey) → IsDead old key → IsDead new key
    pub count : IsSome result → slot_map_len new ≡ slot_map_len old + 1
    pub room : IsSome result → length new.slots.free + 1 ≡ length old.slots.free

  -- the slot is free; or it holds a value, and its generation can be raised
  abbrev pub CanInsertAt : SlotMapState T → ℕ → Type 0
  CanInsertAt s place = IsFree s.slots place ⊎ (IsSome (place_value s place) × (generation_at s place < greatest_generation))

  -- the contract of `insert_at` and `insert_at_counted`
  pub record SlotMapInsertAt (old : SlotMapState T) (place : ℕ) (x : T) (new : SlotMapState T) (result : Option SlotKey) : Type 0 where
    pub some : IsSome result ↔ CanInsertAt old place
    pub key : IfSome result (λ key. key ≡ key_at new place)
    pub holds : IfSome result (λ key. slot_map_value new key ≡ Some x)
    pub free : IsFree old.slots place → new ≡ slot_map_fill old place x
    pub replaced : IsSome (place_value old place) → IsSome result → (new ≡ slot_map_replace old place x) × IsDead new (key_at old place)
    pub refused : IsNone result → new ≡ old
    pub kept : (key : SlotKey) → key.index ≢ place → slot_map_value new key ≡ slot_map_value old key
    pub dead : (key : SlotKey) → IsDead old key → IsDead new key
    pub count : IsFree old.slots place → slot_map_len new ≡ slot_map_len old + 1
    pub room : IsFree old.slots place → length new.slots.free + 1 ≡ length old.slots.free
    pub same_count : IsSome (place_value old place) → slot_map_len new ≡ slot_map_len old
    pub same_free : IsSome (place_value old place) → new.slots.free ≡ old.slots.free

  -- the contract of `remove` and `remove_counted`
  pub record SlotMapRemove (old : SlotMapState T) (key : SlotKey) (new : SlotMapState T) (result : Option T) : Type 0 where
    pub value : result ≡ slot_map_value old key
    pub map : new ≡ slot_map_remove old key
    pub killed : IsSome result → IsDead new key
    pub refused : IsNone result → new ≡ old
    pub kept : (other : SlotKey) → other ≢ key → slot_map_value new other ≡ slot_map_value old other
    pub dead : (other : SlotKey) → IsDead old other → IsDead new other
    pub count : IsSome result → slot_map_len new + 1 ≡ slot_map_len old
    -- the slot of the key is free again, or it is retired
    pub room : IsSome result → key.generation < greatest_generation → length new.slots.free ≡ length old.slots.free + 1
    pub grows : length old.slots.free ≤ length new.slots.free
