-- A flat map as contracts see it: a slot state of pairs, a key and its value each, in which no two keys are equal.
use Rattle.std.specs.Prelude.{◌≡◌, ℕ, ◌≤◌, List, length, map, Option, Some, None, Bool, true, option_map}
use Rattle.std.specs.List.{find}
use Rattle.std.specs.Str.{bytes_eq}
use Rattle.ix_slottable.specs.SlotTableState.{SlotTableState, value_at, entries}
use Rattle.ix_flatmap.specs.declared.map.pair.Pair.{Pair}

-- no two slots hold values that this relates
abbrev pub AreDistinctBy : {T : Type 0} → (T → T → Bool) → SlotTableState T → Type 0
AreDistinctBy {T} same s =
    (i j : ℕ) (a b : T) → value_at s i ≡ Some a → value_at s j ≡ Some b → same a b ≡ true → i ≡ j

-- each slot that has a value is below this one
pub record IsBound {T : Type 0} (s : SlotTableState T) (bound : ℕ) : Type 0 where
  pub within : bound ≤ length s.values
  pub beyond : (place : ℕ) → bound ≤ place → value_at s place ≡ None

-- keys are equal exactly if their bytes are
abbrev pub AreEqualByBytes : {K : Type 0} → (K → K → Bool) → (K → List ℕ) → Type 0
AreEqualByBytes {K} eq bytes = (key other : K) → eq key other ≡ bytes_eq (bytes key) (bytes other)

-- the key has these bytes
abbrev pub has_bytes : {K : Type 0} → (K → List ℕ) → K → List ℕ → Bool
has_bytes bytes key query = bytes_eq (bytes key) query

module _ {K V : Type 0} where
  -- no two slots have equal keys
  abbrev pub HasDistinctKeys : (K → K → Bool) → SlotTableState (Pair K V) → Type 0
  HasDistinctKeys eq s = AreDistinctBy (λ (a b : Pair K V). eq a.key b.key) s

  -- the slot whose pair's key equals this one, and the pair. A key may be compared with a value that stands for one
  abbrev pub map_entry : {Q : Type 0} → (K → Q → Bool) → SlotTableState (Pair K V) → Q → Option (ℕ × Pair K V)
  map_entry eq s key = find (λ entry. eq entry.1.key key) (entries s)

  -- the value of the key, if the map has an equal one
  abbrev pub map_value : {Q : Type 0} → (K → Q → Bool) → SlotTableState (Pair K V) → Q → Option V
  map_value eq s key = option_map (λ entry. entry.1.value) (map_entry eq s key)

  -- the keys in slot order, which is the order of their slots
  abbrev pub map_keys : SlotTableState (Pair K V) → List K
  map_keys s = map (λ entry. entry.1.key) (entries s)

  -- the values in the same order
  abbrev pub map_values : SlotTableState (Pair K V) → List V
  map_values s = map (λ entry. entry.1.value) (entries s)

  -- the key and the value of an entry
  abbrev pub map_item : ℕ × Pair K V → K × V
  map_item entry = (entry.1.key, entry.1.value)

  -- the keys in slot order, each with its value
  abbrev pub map_items : SlotTableState (Pair K V) → List (K × V)
  map_items s = map map_item (entries s)
