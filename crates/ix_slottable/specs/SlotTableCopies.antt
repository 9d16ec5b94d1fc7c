-- Clones of slot tables.
use Rattle.std.specs.Prelude.{◌≡◌, ℕ, length, Option, Some, None}
use Rattle.ix_slottable.specs.SlotTableState.{SlotTableState, value_at}

module _ {T : Type 0} where
  -- the second value is a clone of the first, or neither exists
  abbrev pub IsCloneAt : (T → T → Type 0) → Option T → Option T → Type 0
  IsCloneAt is_clone None None = Unit {0}
  IsCloneAt is_clone None (Some copy) = ⊥
  IsCloneAt is_clone (Some value) None = ⊥
  IsCloneAt is_clone (Some value) (Some copy) = is_clone value copy

  -- clones of the values at their keys, and the same free keys in the same order
  pub record SlotTableIsClone (is_clone : T → T → Type 0) (s copy : SlotTableState T) : Type 0 where
    pub capacity : length copy.values ≡ length s.values
    pub values : (key : ℕ) → IsCloneAt is_clone (value_at s key) (value_at copy key)
    pub free : copy.free ≡ s.free

  -- cloning each value can't fail
  abbrev pub SlotTableIsInfallible : (T → Type 0) → SlotTableState T → Type 0
  SlotTableIsInfallible is_infallible s = (key : ℕ) (value : T) → value_at s key ≡ Some value → is_infallible value
