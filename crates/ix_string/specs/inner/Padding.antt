-- The layout of a string of a fixed capacity in its bytes.
use Rattle.std.specs.Prelude.{ℕ, ◌≡◌, ◌≤◌, List, length, take}
use Rattle.ix_string.specs.Text.{IsText, padded_text}

-- the bytes, as many as the capacity, are a text of count bytes and then zeros
pub record IsPadded (capacity count : ℕ) (bytes : List ℕ) : Type 0 where
  pub within : count ≤ capacity
  pub whole : length bytes ≡ capacity
  pub text : IsText (take count bytes)
  pub zeros : bytes ≡ padded_text capacity (take count bytes)
