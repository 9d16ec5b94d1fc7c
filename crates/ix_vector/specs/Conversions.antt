-- The result of converting a slice or an array into a fixed vector.
use Rattle.std.specs.Prelude.{◌≡◌, ℕ, ◌<◌, ◌≤◌, ◌⊎◌, List, length, Result, Ok, Err}
use Rattle.std.specs.List.{AllZip}
use Rattle.ix_tables.specs.Cloning.{AreInfallible}
use Rattle.ix_tables.specs.declared.cells.table.TheConstants.{MAX_FIXED_CAPACITY}
use Rattle.ix_vector.specs.declared.vector.modification_error.VectorModificationError.{VectorModificationError}
use Rattle.ix_vector.specs.declared.vector.modification_error.VectorModificationError.TheVariants.{OutOfBounds, InsertWouldExceedCapacity, OutOfMemory}

module _ {T : Type 0} where
  -- a fixed vector may have this capacity, and the items fit
  pub record FitsFixed (capacity : ℕ) (items : List T) : Type 0 where
    pub fixed : capacity ≤ MAX_FIXED_CAPACITY
    pub room : length items ≤ capacity

  -- clones of all items; or the error that they do not fit; or, if they fit, that cloning one failed
  abbrev pub StaticVecFromSlice : ℕ → (T → T → Type 0) → (T → Type 0) → List T → Result (List T) VectorModificationError → Type 0
  StaticVecFromSlice capacity is_clone is_infallible items (Ok vector) = FitsFixed capacity items × AllZip is_clone items vector
  StaticVecFromSlice capacity is_clone is_infallible items (Err InsertWouldExceedCapacity) = (MAX_FIXED_CAPACITY < capacity) ⊎ (capacity < length items)
  StaticVecFromSlice capacity is_clone is_infallible items (Err OutOfMemory) = FitsFixed capacity items × ¬ (AreInfallible is_infallible items)
  StaticVecFromSlice capacity is_clone is_infallible items (Err OutOfBounds) = ⊥

  -- the items of the array, or the array itself if they do not fit
  abbrev pub StaticVecFromArray : ℕ → List T → Result (List T) (List T) → Type 0
  StaticVecFromArray capacity items (Ok vector) = (length items ≤ capacity) × (vector ≡ items)
  StaticVecFromArray capacity items (Err array) = (capacity < length items) × (array ≡ items)
