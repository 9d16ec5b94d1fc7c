-- Clones of slot maps.
use Rattle.std.specs.Prelude.{◌≡◌, ℕ, Some}
use Rattle.ix_slotmap.specs.Generations.{SlotMapState, place_value}
use Rattle.ix_slottable.specs.SlotTableCopies.{IsCloneAt, SlotTableIsClone}

module _ {T : Type 0} where
  -- clones of the values in the same slots, the same free slots in the same order, the same retired slots, and the same generations
  pub record SlotMapIsClone (is_clone : T → T → Type 0) (s copy : SlotMapState T) : Type 0 where
    pub slots : SlotTableIsClone (IsCloneAt is_clone) s.slots copy.slots
    pub generations : copy.generations ≡ s.generations

  -- cloning each value can't fail
  abbrev pub SlotMapIsInfallible : (T → Type 0) → SlotMapState T → Type 0
  SlotMapIsInfallible is_infallible s = (place : ℕ) (value : T) → place_value s place ≡ Some value → is_infallible value
