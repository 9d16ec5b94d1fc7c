-- The steps of a string: the bounded text after each call, and the result of each method that may return an error.
use Rattle.std.specs.Prelude.{◌≡◌, ℕ, ◌+◌, ◌<◌, ◌≤◌, List, length, nat_le, if◌then◌else◌, Bool, Result, Ok, Err}
use Rattle.std.specs.List.{remove_range, insert_slice}
use Rattle.ix_tables.specs.Bounded.{Bounded, with_items}
use Rattle.ix_string.specs.Text.{is_text, IsText}
use Rattle.ix_string.specs.declared.string.modification_error.StringModificationError.{StringModificationError}
use Rattle.ix_string.specs.declared.string.modification_error.StringModificationError.TheVariants.{InvalidCharacter, InsertWouldExceedCapacity}

abbrev pub TextResult : Type 0
TextResult = Result (Unit {0}) StringModificationError

-- the bytes do not exceed the capacity
abbrev pub has_room_for : Bounded ℕ → List ℕ → Bool
has_room_for text bytes = nat_le (length text.items + length bytes) text.capacity

-- the bytes inserted at index i
abbrev pub text_insert_slice : Bounded ℕ → ℕ → List ℕ → Bounded ℕ
text_insert_slice text i bytes = with_items text (insert_slice text.items i bytes)

-- the bytes inserted at index i, if there is room for them and they are text
abbrev pub text_insert : Bounded ℕ → ℕ → List ℕ → Bounded ℕ
text_insert text i bytes = if has_room_for text bytes then (if is_text bytes then text_insert_slice text i bytes else text) else text

-- a lack of room is reported before an invalid byte
abbrev pub text_insert_result : Bounded ℕ → List ℕ → TextResult
text_insert_result text bytes =
    if has_room_for text bytes then (if is_text bytes then Ok tt else Err InvalidCharacter) else Err InsertWouldExceedCapacity

-- there are n bytes from index i on
abbrev pub IsRangeOf : Bounded ℕ → ℕ → ℕ → Type 0
IsRangeOf text i n = i + n ≤ length text.items

-- the n bytes from index i on removed
abbrev pub text_remove_range : Bounded ℕ → ℕ → ℕ → Bounded ℕ
text_remove_range text i n = with_items text (remove_range text.items i (i + n))

-- the result of creating a string from the bytes: a lack of room is reported before an invalid byte
abbrev pub StringFromBytes : ℕ → List ℕ → Result (List ℕ) StringModificationError → Type 0
StringFromBytes capacity bytes (Ok string) = (length bytes ≤ capacity) × IsText bytes × (string ≡ bytes)
StringFromBytes capacity bytes (Err InsertWouldExceedCapacity) = capacity < length bytes
StringFromBytes capacity bytes (Err InvalidCharacter) = (length bytes ≤ capacity) × ¬ IsText bytes
