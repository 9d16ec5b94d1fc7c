-- The lines of an input.
use Rattle.std.specs.Prelude.{ℕ, ◌≢◌, List, [], ◌∷◌, ◌++◌, length, nat_le, nat_eq, if◌then◌else◌, Option, None, Some, All}
use Rattle.std.specs.List.{flat_map, onto_first}
use Rattle.ix_run.specs.declared.run.devices.limits.TheConstants.{MAX_LINE_LEN}

-- the byte that ends a line
abbrev pub line_feed : ℕ
line_feed = 10

-- no byte is a line feed
abbrev pub IsOneLine : List ℕ → Type 0
IsOneLine bytes = All (λ b. b ≢ line_feed) bytes

abbrev pub with_line_feed : List ℕ → List ℕ
with_line_feed line = line ++ line_feed ∷ []

-- the lines one after the other, each with its line feed
abbrev pub text_of_lines : List (List ℕ) → List ℕ
text_of_lines lines = flat_map with_line_feed lines

-- the lines of an input, cut at each line feed; there is no line after the last byte
abbrev pub lines_of : List ℕ → List (List ℕ)
lines_of [] = []
lines_of (b ∷ bytes) = if nat_eq b line_feed then [] ∷ lines_of bytes else onto_first b (lines_of bytes)

-- a line of at most MAX_LINE_LEN bytes, or None for a longer one, which is read as no command
abbrev pub LimitedLine : Type 0
LimitedLine = Option (List ℕ)

abbrev pub limited_line : List ℕ → LimitedLine
limited_line line = if nat_le (length line) MAX_LINE_LEN then Some line else None
