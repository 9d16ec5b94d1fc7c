-- A ring: a row of places whose items lie in turn from one place on, where the first place follows the last.
use Rattle.std.specs.Prelude.{◌≡◌, ℕ, ◌+◌, ◌-◌, ◌<◌, ◌≤◌, List, [], ◌∷◌, ◌++◌, length, take, drop, map, replicate, nat_eq, nat_lt, if◌then◌else◌, Option, None, Some}

-- the place that is i places after start, of so many places
abbrev pub ring_place : ℕ → ℕ → ℕ → ℕ
ring_place start i capacity = if nat_lt i (capacity - start) then start + i else i - (capacity - start)

-- the place after a place
abbrev pub ring_next : ℕ → ℕ → ℕ
ring_next place capacity = if nat_eq (place + 1) capacity then 0 else place + 1

module _ {T : Type 0} where
  -- the row in the order of the ring that starts at this place
  abbrev pub ring_row : List (Option T) → ℕ → List (Option T)
  ring_row row start = drop start row ++ take start row

  -- the items of a row, in order
  abbrev pub row_items : List (Option T) → List T
  row_items [] = []
  row_items (None ∷ row) = row_items row
  row_items (Some x ∷ row) = x ∷ row_items row

  -- the places from start on hold the items, and the places after those are empty
  pub record IsRingOf (items : List T) (row : List (Option T)) (start : ℕ) : Type 0 where
    pub within : start ≤ length row
    pub below : 0 < length row → start < length row
    pub fits : length items ≤ length row
    pub in_turn : ring_row row start ≡ map Some items ++ replicate (length row - length items) None

  -- a ring that starts at this place, with so many items
  pub record IsRing (row : List (Option T)) (start len : ℕ) : Type 0 where
    pub ring : IsRingOf (row_items (ring_row row start)) row start
    pub counted : len ≡ length (row_items (ring_row row start))

  -- the indexes of a range of the items: the first one, and the one after the last
  pub record IsIndexRange (items : List T) (index end : ℕ) : Type 0 where
    pub rises : index ≤ end
    pub within : end ≤ length items
