-- Stores and loads of the bytes of a value, in the order in which they happen.
use Rattle.std.specs.Prelude.{◌≡◌, ℕ, ◌<◌, List, length, Option, Some, None, if◌then◌else◌, nat_eq, slice_get, filter_map}
use Rattle.std.specs.List.{last_or}
use Rattle.ix_atomic.specs.declared.byte_atomic.steps.plain.Act.{Act}
use Rattle.ix_atomic.specs.declared.byte_atomic.steps.plain.Act.TheVariants.{Store, Load}
use Rattle.ix_atomic.specs.EachStep.{EachAfter}

-- the byte that an act stores at a place, if it does
abbrev pub stored_at : ℕ → Act → Option ℕ
stored_at place (Store at byte) = if nat_eq at place then Some byte else None
stored_at place (Load at byte) = None

-- the byte that a place has after these acts: the last one that they store there, or else the first one
abbrev pub byte_after : List ℕ → List Act → ℕ → Option ℕ
byte_after first acts place = last_or (slice_get first place) (filter_map (stored_at place) acts)

-- an act that is legal after these acts: its place is one of the value's, and a load has the byte of its place
abbrev pub IsLegalAfter : List ℕ → List Act → Act → Type 0
IsLegalAfter first before (Store place byte) = place < length first
IsLegalAfter first before (Load place byte) = (place < length first) × (byte_after first before place ≡ Some byte)

-- each act is legal after those before it
abbrev pub AreLegal : List ℕ → List Act → Type 0
AreLegal first acts = EachAfter (IsLegalAfter first) acts
