-- The slots of a map that have a key.
use Rattle.std.specs.Prelude.{◌≡◌, ℕ, ◌+◌, ◌<◌, ◌≤◌, Bool, true, false}
use Rattle.std.specs.Option.{option_map_or}
use Rattle.ix_slottable.specs.SlotTableState.{SlotTableState, value_at}
use Rattle.ix_flatmap.specs.declared.map.pair.Pair.{Pair}

module _ {K V : Type 0} where
  -- the slot has a pair whose key equals this one
  abbrev pub is_key_at : {Q : Type 0} → (K → Q → Bool) → SlotTableState (Pair K V) → Q → ℕ → Bool
  is_key_at eq s key place = option_map_or (λ pair. eq pair.key key) (value_at s place) false

  -- none of so many slots from start on has it
  abbrev pub HasNoKeyIn : {Q : Type 0} → (K → Q → Bool) → SlotTableState (Pair K V) → Q → ℕ → ℕ → Type 0
  HasNoKeyIn eq s key start n = (i : ℕ) → i < n → is_key_at eq s key (start + i) ≡ false

  -- which of n slots from start on has it, or n itself, and then none of the first i has it
  abbrev pub IsFoundIn : (K → K → Bool) → SlotTableState (Pair K V) → K → ℕ → ℕ → ℕ → ℕ → Type 0
  IsFoundIn eq s key start n i found =
      (found ≤ n) × (found < n → is_key_at eq s key (start + found) ≡ true) × (found ≡ n → HasNoKeyIn eq s key start i)
