-- The rest of a line after a space: its words, and its length.
use Rattle.std.specs.Prelude.{ℕ, ◌+◌, List, [], length, if◌then◌else◌, Option, None, Some, option_and_then}
use Rattle.std.specs.List.{slice_split}
use Rattle.ix_run.specs.Reading.{number_of}
use Rattle.ix_run.specs.Words.{is_space, fits_byte}

-- the words of the rest after a space, if a space was there
abbrev pub words_after : Option (List ℕ) → List (List ℕ)
words_after None = []
words_after (Some bytes) = slice_split is_space bytes

-- the number of bytes of a space and of the rest after it, or 0 if there is none
abbrev pub len_after : Option (List ℕ) → ℕ
len_after None = 0
len_after (Some bytes) = length bytes + 1

-- the byte whose decimal text the word is
abbrev pub byte_of : List ℕ → Option ℕ
byte_of word = option_and_then (λ n. if fits_byte n then Some n else None) (number_of word)
