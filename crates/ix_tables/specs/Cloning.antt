-- Words for functions that clone items.
use Rattle.std.specs.Prelude.{◌≡◌, ℕ, ◌<◌, List, length, slice_index_or}

module _ {T : Type 0} where
  -- a clone equals its original
  abbrev pub AreEqualClones : (T → T → Type 0) → Type 0
  AreEqualClones is_clone = (x y : T) → is_clone x y → y ≡ x

  -- cloning each of the items can't fail
  abbrev pub AreInfallible : (T → Type 0) → List T → Type 0
  AreInfallible is_infallible items = (i : ℕ) (d : T) → i < length items → is_infallible (slice_index_or items i d)
