-- The rule of a sequenced cell: its words and its seats between any two steps. Word 0 is the version, each other word eight bytes.
use Rattle.std.specs.Prelude.{◌≡◌, ℕ, ◌+◌, ◌/◌, ◌<◌, ◌≤◌, ◌^◌, List, [], ◌∷◌, ◌++◌, All, length, take, drop, slice_index}
use Rattle.std.specs.List.{Contains}
use mathlib.Core.Option.{some}
use lib.ListN.{get_elem?}
use Rattle.atomic_table.specs.Table.{State}
use Rattle.ix_atomic.specs.declared.sequenced.rule.SeatView.{SeatView}
use Rattle.ix_atomic.specs.declared.sequenced.rule.Stage.{Stage}
use Rattle.ix_atomic.specs.declared.sequenced.rule.Stage.TheVariants.{Idle, Reading, Writing}
use Rattle.ix_atomic.specs.History.{Begins, IsEven, IsOdd}
use Rattle.ix_atomic.specs.Writers.{IsRising}
use Rattle.ix_atomic.specs.Shares.{AreWithin, units}
use Rattle.ix_atomic.specs.inner.DataWords.{words_of}

-- the bytes are the encoding of the value
abbrev pub Encodes : {T : Type 0} → (T → Type 0) → (T → List ℕ) → T → List ℕ → Type 0
Encodes is_value encoding value bytes = is_value value × (bytes ≡ encoding value)

-- what the words stand for
pub record Content (T : Type 0) : Type 0 where
  pub earlier : List T  -- the history but its last value
  pub last : T
  pub bytes : List ℕ  -- the encoding of the last value
  pub front : List ℕ  -- the bytes that the write in progress has stored
  pub writer : ℕ  -- the number of the seat of the write in progress

abbrev pub history : {T : Type 0} → Content T → List T
history content = content.earlier ++ content.last ∷ []

-- A front of the bytes is of the write in progress, the rest still of the last value.
abbrev pub cell_bytes : {T : Type 0} → Content T → List ℕ
cell_bytes content = content.front ++ drop (length content.front) content.bytes

-- 1 during a write
abbrev pub parity : Stage → ℕ
parity Idle = 0
parity (Reading first loaded) = 0
parity (Writing stored) = 1

-- What a seat has loaded or stored, and what it knows then. A read whose first version is even and still stands has loaded a
-- front of the last value. Only the seat of the write in progress writes, and it knows all.
abbrev pub Holds : {T : Type 0} → ℕ → Content T → ℕ → List T → Stage → Type 0
Holds version content seat known Idle = Unit {0}
Holds version content seat known (Reading first loaded) = (first ≤ version) × (first ≡ version → IsEven first → loaded ≡ take (length loaded) content.bytes)
Holds version content seat known (Writing stored) = (seat ≡ content.writer) × IsOdd version × (stored ≡ content.front) × (known ≡ history content)

-- what the seat of this number has seen and knows
pub record Knows {T : Type 0} (version : ℕ) (content : Content T) (seat : ℕ) (view : SeatView T) : Type 0 where
  pub known : Begins view.known (history content)
  pub joined : Begins view.joined (history content)
  pub seen : All (λ earlier. earlier ≤ version) view.seen
  pub rising : IsRising view.places
  pub places : (place : ℕ) → Contains view.places place → (0 < place) × (place < length (history content))
  pub wrote : (place : ℕ) → Contains view.places place → 0 < length view.share
  pub writes : parity view.stage ≡ 1 → 0 < length view.share
  pub stage : Holds version content seat view.known view.stage

-- no place belongs to two seats
abbrev pub ApartSeats : {T : Type 0} → List (SeatView T) → Type 0
ApartSeats {T} views = (seat other : ℕ) (view view' : SeatView T) (place : ℕ) → get_elem? views seat ≡ some view → get_elem? views other ≡ some view' → Contains view.places place → Contains view'.places place → seat ≡ other

-- each of so many places, except the first, belongs to a seat
abbrev pub HaveOwners : {T : Type 0} → ℕ → List (SeatView T) → Type 0
HaveOwners {T} count views = (place : ℕ) → 0 < place → place < count → (seat : ℕ) × (view : SeatView T) × (get_elem? views seat ≡ some view) × Contains view.places place

-- no part of the seats' shares was halved more often than this
abbrev pub AllWithin : {T : Type 0} → ℕ → List (SeatView T) → Type 0
AllWithin depth [] = Unit {0}
AllWithin depth (view ∷ views) = AreWithin depth view.share × AllWithin depth views

-- the shares of all seats, in units that are the whole right halved so often
abbrev pub all_units : {T : Type 0} → ℕ → List (SeatView T) → ℕ
all_units depth [] = 0
all_units depth (view ∷ views) = units depth view.share + all_units depth views

-- together the seats have the whole right to write
abbrev pub AreDealt : {T : Type 0} → List (SeatView T) → Type 0
AreDealt views = (depth : ℕ) × AllWithin depth views × (all_units depth views ≡ 2 ^ depth)

pub record SequencedRule {T : Type 0} (IsEncoding : T → List ℕ → Type 0) (table : State (Unit {0}) (SeatView T)) : Type 0 where
  pub content : Content T
  pub words : table.words ≡ slice_index table.words 0 ∷ words_of (cell_bytes content)
  pub version : length (history content) ≡ slice_index table.words 0 / 2 + 1
  pub last : IsEncoding content.last content.bytes
  pub between_writes : IsEven (slice_index table.words 0) → content.front ≡ []
  pub during_a_write : IsOdd (slice_index table.words 0) → (value : T) × (bytes : List ℕ) × IsEncoding value bytes × Begins content.front bytes
  pub writing : IsOdd (slice_index table.words 0) → (view : SeatView T) × (get_elem? table.views content.writer ≡ some view) × (parity view.stage ≡ 1)
  pub byte_range : (index : ℕ) → slice_index (cell_bytes content) index < 256
  pub seats : (seat : ℕ) (view : SeatView T) → get_elem? table.views seat ≡ some view → Knows (slice_index table.words 0) content seat view
  pub apart : ApartSeats table.views
  pub owners : HaveOwners (length (history content)) table.views
  pub dealt : AreDealt table.views
