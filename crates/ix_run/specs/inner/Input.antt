-- A buffer of an input that is read in pieces and taken line by line.
use Rattle.std.specs.Prelude.{ℕ, ◌≡◌, ◌<◌, ◌≤◌, ◌+◌, List, [], ◌∷◌, ◌++◌, nat_eq, nat_le, if◌then◌else◌, length, take, Option, None, Some, Bool, true, false, Result, Ok, Err}
use Rattle.std.specs.Io.KnownBytes.{Consumes, IsAtEnd, Keeps}
use Rattle.ix_run.specs.Lines.{LimitedLine, limited_line, line_feed, IsOneLine}
use Rattle.ix_run.specs.declared.run.devices.fault.ScriptFault.{ScriptFault}
use Rattle.ix_run.specs.declared.run.devices.fault.ScriptFault.TheVariants as fault
use Rattle.ix_run.specs.declared.run.devices.limits.TheConstants.{MAX_LINE_LEN}

-- the first count bytes of a buffer, or None if these are more than MAX_LINE_LEN
abbrev pub buffered_line : List ℕ → ℕ → LimitedLine
buffered_line buffer count = if nat_le count MAX_LINE_LEN then Some (take count buffer) else None

-- the line with bytes appended
abbrev pub limited_line_append : LimitedLine → List ℕ → LimitedLine
limited_line_append None bytes = None
limited_line_append (Some line) [] = Some line
limited_line_append (Some line) (b ∷ bytes) = limited_line (line ++ b ∷ bytes)

-- the first count bytes of the buffer were read, and count is 0 only at the end; an interrupted or failed read reads nothing
abbrev pub ReadsOnce : Option (List ℕ) → Option (List ℕ) → Result (Option ℕ) ScriptFault → List ℕ → Type 0
ReadsOnce input input' (Ok (Some count)) buffer =
    (count ≤ length buffer) × Consumes input input' (take count buffer) × (count ≡ 0 → 0 < length buffer → IsAtEnd input')
ReadsOnce input input' (Ok None) buffer = Keeps input input'
ReadsOnce input input' (Err e) buffer = (e ≡ fault.Read) × Keeps input input'

-- joined and in_place: one of them has the bytes of the current line; rest: the bytes that were read after it; fuel: a bound on the
-- lines that may still come
pub record Unread : Type 0 where
  pub joined : LimitedLine
  pub in_place : List ℕ
  pub rest : List ℕ
  pub fuel : ℕ

abbrev pub line_at : LimitedLine → List ℕ → LimitedLine
line_at None in_place = None
line_at (Some []) in_place = limited_line in_place
line_at (Some (b ∷ line)) in_place = Some (b ∷ line)

abbrev pub current_line : Unread → LimitedLine
current_line unread = line_at unread.joined unread.in_place

-- a last line without a line feed; an empty one is no line
abbrev pub last_line : LimitedLine → List LimitedLine
last_line None = None ∷ []
last_line (Some []) = []
last_line (Some (b ∷ line)) = Some (b ∷ line) ∷ []

-- the lines of bytes that continue this line
abbrev pub lines_from : LimitedLine → List ℕ → List LimitedLine
lines_from line [] = last_line line
lines_from line (b ∷ bytes) = if nat_eq b line_feed then line ∷ lines_from (Some []) bytes else lines_from (limited_line_append line (b ∷ [])) bytes

-- the lines after the current one, with bytes that are still to be read
abbrev pub lines_to_come : Unread → List ℕ → List LimitedLine
lines_to_come unread more = lines_from (Some []) (unread.rest ++ more)

-- on true the current line ended with a line feed; on false all that was read is part of it
abbrev pub TakesLine : Unread → Unread → Bool → Type 0
TakesLine unread unread' true =
    (front : List ℕ)
    × IsOneLine front
    × (unread.rest ≡ front ++ line_feed ∷ unread'.rest)
    × (current_line unread' ≡ limited_line_append unread.joined front)
    × (unread'.fuel < unread.fuel)
TakesLine unread unread' false =
    IsOneLine unread.rest
    × (unread'.rest ≡ [])
    × (unread'.in_place ≡ [])
    × (unread'.joined ≡ limited_line_append unread.joined unread.rest)
    × (unread'.fuel + length unread.rest ≡ unread.fuel)

-- what was read, if anything, follows the current line; on Ok true the input is at its end
abbrev pub FillResult : Option (List ℕ) → Unread → Option (List ℕ) → Unread → Result Bool ScriptFault → Type 0
FillResult input unread input' unread' (Ok ended) =
    Consumes input input' unread'.rest
    × (ended ≡ true → IsAtEnd input')
    × (unread'.in_place ≡ [])
    × (unread'.joined ≡ unread.joined)
    × (unread'.fuel < unread.fuel)
FillResult input unread input' unread' (Err e) = (e ≡ fault.Read) × Keeps input input'
