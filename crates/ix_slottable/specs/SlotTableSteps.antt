-- The steps of a slot table: the slot state after each call, and the contracts of the methods that change a table.
use Rattle.std.specs.Prelude.{◌≡◌, ◌≢◌, ◌↔◌, ℕ, ◌+◌, List, [], ◌∷◌, length, nat_eq, nat_lt, if◌then◌else◌, Bool, Option, Some, None, IsTrue, IsNone, IsSome, IfSome, is_some, slice_get, slice_set}
use Rattle.std.specs.Bool.{OnFalse}
use Rattle.std.specs.Option.{option_map_or}
use Rattle.std.specs.List.{fold, range_with_len}
use Rattle.ix_slottable.specs.SlotTableState.{SlotTableState, value_at, IsHeld, IsKey, IsFree, held_count}

-- the keys except the first one that equals this key
abbrev pub keys_without : ℕ → List ℕ → List ℕ
keys_without key [] = []
keys_without key (other ∷ keys) = if nat_eq key other then keys else other ∷ keys_without key keys

module _ {T : Type 0} where
  -- the value at the key, and the free keys unchanged
  abbrev pub slot_table_set : SlotTableState T → ℕ → T → SlotTableState T
  slot_table_set s key value = record { values = slice_set s.values key (Some value); free = s.free }

  -- the value at the key, which is no longer free
  abbrev pub slot_table_fill : SlotTableState T → ℕ → T → SlotTableState T
  slot_table_fill s key value = record { values = slice_set s.values key (Some value); free = keys_without key s.free }

  -- no value at the key, which is the first free key
  abbrev pub slot_table_vacate : SlotTableState T → ℕ → SlotTableState T
  slot_table_vacate s key = record { values = slice_set s.values key None; free = key ∷ s.free }

  -- the value at the first free key, if there is one
  abbrev pub slot_table_insert : SlotTableState T → T → SlotTableState T
  slot_table_insert s value = option_map_or (λ key. slot_table_fill s key value) (slice_get s.free 0) s

  -- the value at the key, if that is in range
  abbrev pub slot_table_insert_at : SlotTableState T → ℕ → T → SlotTableState T
  slot_table_insert_at s key value = if nat_lt key (length s.values) then slot_table_fill s key value else s

  -- no value at the key, if it had one
  abbrev pub slot_table_remove : SlotTableState T → ℕ → SlotTableState T
  slot_table_remove s key = if is_some (value_at s key) then slot_table_vacate s key else s

  -- each key is removed, the least one first
  abbrev pub slot_table_clear : SlotTableState T → SlotTableState T
  slot_table_clear s = fold slot_table_remove s (range_with_len 0 (length s.values))

  -- the contract of `insert` and `insert_counted`
  pub record SlotTableInsert (old : SlotTableState T) (x : T) (new : SlotTableState T) (result : Option ℕ) : Type 0 where
    pub key : result ≡ slice_get old.free 0
    pub map : new ≡ slot_table_insert old x
    pub was_free : IfSome result (IsFree old)
    pub holds : IfSome result (λ key. value_at new key ≡ Some x)
    pub full : IsNone result ↔ (old.free ≡ [])
    pub refused : IsNone result → new ≡ old
    pub kept : (other : ℕ) → result ≢ Some other → value_at new other ≡ value_at old other
    pub count : IsSome result → held_count new ≡ held_count old + 1
    pub room : IsSome result → length new.free + 1 ≡ length old.free

  -- the contract of `insert_at` and `insert_at_counted`
  pub record SlotTableInsertAt (old : SlotTableState T) (key : ℕ) (x : T) (new : SlotTableState T) (result : Bool) : Type 0 where
    pub value : IsTrue result ↔ IsKey old key
    pub map : new ≡ slot_table_insert_at old key x
    pub holds : IsTrue result → value_at new key ≡ Some x
    pub refused : OnFalse result (new ≡ old)
    pub kept : (other : ℕ) → other ≢ key → value_at new other ≡ value_at old other
    pub count : IsFree old key → held_count new ≡ held_count old + 1
    pub room : IsFree old key → length new.free + 1 ≡ length old.free
    pub same_count : IsHeld old key → held_count new ≡ held_count old
    pub same_free : IsHeld old key → new.free ≡ old.free

  -- the contract of `remove` and `remove_counted`
  pub record SlotTableRemove (old : SlotTableState T) (key : ℕ) (new : SlotTableState T) (result : Option T) : Type 0 where
    pub value : result ≡ value_at old key
    pub map : new ≡ slot_table_remove old key
    pub gone : value_at new key ≡ None
    pub refused : IsNone result → new ≡ old
    pub kept : (other : ℕ) → other ≢ key → value_at new other ≡ value_at old other
    pub count : IsSome result → held_count new + 1 ≡ held_count old
    pub room : IsSome result → length new.free ≡ length old.free + 1
