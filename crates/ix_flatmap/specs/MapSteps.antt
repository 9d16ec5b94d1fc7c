-- The steps of a flat map: the state after each call, the result of inserting, and the calls that listing the keys makes.
use Rattle.std.specs.Prelude.{◌≡◌, ℕ, ◌⊎◌, List, [], ◌∷◌, Bool, if◌then◌else◌, is_some, slice_get, Result, Ok, Err, codes}
use Rattle.std.specs.Option.{option_map_or}
use Rattle.std.specs.Fn.{Mut, CalledAt}
use Rattle.std.specs.Borrow.{Bor}
use Rattle.ix_slottable.specs.SlotTableState.{SlotTableState, value_at}
use Rattle.ix_slottable.specs.SlotTableSteps.{slot_table_set, slot_table_insert, slot_table_vacate}
use Rattle.ix_flatmap.specs.MapState.{map_entry}
use Rattle.ix_flatmap.specs.declared.map.pair.Pair.{Pair}
use Rattle.ix_flatmap.specs.declared.map.callback_progression.CallbackProgression.{CallbackProgression}
use Rattle.ix_flatmap.specs.declared.map.callback_progression.CallbackProgression.TheVariants.{Continue, Stop}
use Rattle.ix_flatmap.specs.declared.map.map_error.MapError.{MapError}
use Rattle.ix_flatmap.specs.declared.map.map_error.MapError.TheVariants.{KeyAlreadyExists, IsFull}

abbrev pub MapResult : Type 0
MapResult = Result (Unit {0}) MapError

abbrev pub map_error_text : MapError → List ℕ
map_error_text KeyAlreadyExists = codes "MapError::KeyAlreadyExists"
map_error_text IsFull = codes "MapError::IsFull"

module _ {K V : Type 0} where
  -- if the map has the key, the error is `KeyAlreadyExists`, even if there is no room
  abbrev pub map_insert_result : (K → K → Bool) → SlotTableState (Pair K V) → K → MapResult
  map_insert_result eq s key =
      if is_some (map_entry eq s key) then Err KeyAlreadyExists else (if is_some (slice_get s.free 0) then Ok tt else Err IsFull)

  -- the pair in the first free slot, if there is one and the key is new
  abbrev pub map_insert : (K → K → Bool) → SlotTableState (Pair K V) → K → V → SlotTableState (Pair K V)
  map_insert eq s key value =
      if is_some (map_entry eq s key) then s else slot_table_insert s (record { key = key; value = value })

  -- the value of the pair in this slot, if there is one
  abbrev pub pair_set : SlotTableState (Pair K V) → ℕ → V → SlotTableState (Pair K V)
  pair_set s place value = option_map_or (λ pair. slot_table_set s place (record pair { value = value })) (value_at s place) s

  -- the value of the key, if the map has it
  abbrev pub map_set : (K → K → Bool) → SlotTableState (Pair K V) → K → V → SlotTableState (Pair K V)
  map_set eq s key value =
      option_map_or (λ entry. pair_set s entry.0 value) (map_entry eq s key) s

  -- the value of the key, if the map has it, and else the pair in the first free slot, if there is one
  abbrev pub map_replace : (K → K → Bool) → SlotTableState (Pair K V) → K → V → SlotTableState (Pair K V)
  map_replace eq s key value =
      if is_some (map_entry eq s key) then map_set eq s key value else map_insert eq s key value

  -- no pair in the slot of the key, if the map has it
  abbrev pub map_remove : (K → K → Bool) → SlotTableState (Pair K V) → K → SlotTableState (Pair K V)
  map_remove eq s key = option_map_or (λ entry. slot_table_vacate s entry.0) (map_entry eq s key) s

module _ {F K : Type 0} (calls : Mut F (Bor K × Unit {0}) CallbackProgression) where
  -- f was called with these keys in turn, up to and including the first for which it returned `Stop`, and was left as `last`
  abbrev pub ListsUntilStop : F → List K → F → Type 0
  ListsUntilStop f [] last = f ≡ last
  ListsUntilStop f (key ∷ keys) last =
      (next : F) × ((CalledAt calls f key Stop next × (next ≡ last)) ⊎ (CalledAt calls f key Continue next × ListsUntilStop next keys last))
