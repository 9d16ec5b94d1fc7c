-- The places of a full array. The first of them are the items of a vector.
use Rattle.std.specs.Prelude.{ℕ, ◌≡◌, ◌≤◌, List, length}

-- len of the places come first
pub record IsFront {T : Type 0} (capacity : ℕ) (places : List T) (len : ℕ) : Type 0 where
  pub within : len ≤ capacity
  pub whole : length places ≡ capacity
