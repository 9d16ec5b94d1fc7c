-- Creating a string from bytes, in memory of an allocator.
use Rattle.std.specs.Prelude.{ℕ, ◌≡◌, ◌≢◌, List, [], length, Result, Ok, Err}
use Rattle.ix_tables.specs.Bounded.{Bounded}
use Rattle.ix_string.specs.Text.{IsText}
use Rattle.ix_string.specs.declared.string.creation_error.StringCreationError.{StringCreationError}
use Rattle.ix_string.specs.declared.string.creation_error.StringCreationError.TheVariants.{InvalidCharacter, OutOfMemory}

-- a string that the bytes fill
abbrev pub full_of : List ℕ → Bounded ℕ
full_of bytes = record { items = bytes; capacity = length bytes }

-- the result of creating a string that the bytes fill: an invalid byte is reported before a failed allocation, and no bytes need no
-- allocation
abbrev pub HeapStringFromBytes : List ℕ → Result (Bounded ℕ) StringCreationError → Type 0
HeapStringFromBytes bytes (Ok string) = IsText bytes × (string ≡ full_of bytes)
HeapStringFromBytes bytes (Err InvalidCharacter) = ¬ IsText bytes
HeapStringFromBytes bytes (Err OutOfMemory) = IsText bytes × (bytes ≢ [])
