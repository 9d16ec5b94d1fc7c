-- A row of places, each empty or holding one item: the content of a table.
use Rattle.std.specs.Prelude.{◌≡◌, ℕ, ◌<◌, List, length, replicate, Option, None, IsSome, slice_index_or}

module _ {T : Type 0} where
  -- the content of place i, and None past the end
  abbrev pub place_at : List (Option T) → ℕ → Option T
  place_at row i = slice_index_or row i None

  -- place i exists and is empty
  abbrev pub IsEmptyAt : List (Option T) → ℕ → Type 0
  IsEmptyAt row i = (i < length row) × (place_at row i ≡ None)

  -- place i exists and holds an item
  abbrev pub IsHeldAt : List (Option T) → ℕ → Type 0
  IsHeldAt row i = IsSome (place_at row i)

  -- every place is empty
  abbrev pub IsVacant : List (Option T) → Type 0
  IsVacant row = row ≡ replicate (length row) None
