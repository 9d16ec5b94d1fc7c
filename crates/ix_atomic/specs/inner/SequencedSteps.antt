-- The effect of each step of a sequenced cell on the seat that takes it. A step is a load or store of one word.
use Rattle.std.specs.Prelude.{◌≡◌, ◌≢◌, ℕ, ◌+◌, ◌-◌, ◌*◌, ◌/◌, ◌<◌, ◌≤◌, min, List, [], ◌∷◌, ◌++◌, All, length, take, Some}
use Rattle.std.specs.List.{fold}
use Rattle.atomic_table.specs.Table.{Me, Step}
use Rattle.ix_atomic.specs.declared.sequenced.rule.SeatView.{SeatView}
use Rattle.ix_atomic.specs.declared.sequenced.rule.Stage.{Stage}
use Rattle.ix_atomic.specs.declared.sequenced.rule.Stage.TheVariants.{Idle, Reading, Writing}
use Rattle.ix_atomic.specs.History.{Begins, IsEven, history_value, Reader}
use Rattle.ix_atomic.specs.Shares.{IsWhole}
use Rattle.ix_atomic.specs.Writers.{Writer, IsRising, HoldsEach, places_merge}
use Rattle.ix_atomic.specs.Words.{bytes_of_word}
use Rattle.atomic_table.specs.Seated.{TableId}

-- a seat as its table sees it
abbrev pub Seated : Type 0 → Type 0
Seated T = Me (Unit {0}) (SeatView T)

-- one more byte is loaded or stored
abbrev pub stage_byte : ℕ → Stage → Stage
stage_byte byte Idle = Idle
stage_byte byte (Reading first loaded) = Reading first (loaded ++ byte ∷ [])
stage_byte byte (Writing stored) = Writing (stored ++ byte ∷ [])

-- bytes are loaded or stored, one after another
abbrev pub stage_bytes : List ℕ → Stage → Stage
stage_bytes bytes stage = fold (λ stage byte. stage_byte byte stage) stage bytes

-- how many bytes the word at this index of the table has, of a value of this size
abbrev pub bytes_at : ℕ → ℕ → ℕ
bytes_at size index = min 8 (size - 8 * (index - 1))

module _ {T : Type 0} where
  -- the seat of a new cell
  abbrev pub view_new : T → SeatView T
  view_new value = record { known = value ∷ []; joined = []; seen = []; places = []; share = 0 ∷ []; stage = Idle; touched = [] }

  -- these words are touched, and then the stage is this one
  abbrev pub view_stage : List ℕ → Stage → SeatView T → SeatView T
  view_stage words stage view = record view { stage = stage; touched = view.touched ++ words }

  -- the word is touched, and these bytes of it are loaded or stored
  abbrev pub view_bytes : ℕ → List ℕ → SeatView T → SeatView T
  view_bytes word bytes view = view_stage (word ∷ []) (stage_bytes bytes view.stage) view

  abbrev pub view_end : T → SeatView T → SeatView T
  view_end value view = record view { known = view.known ++ value ∷ []; places = view.places ++ length view.known ∷ []; stage = Idle; touched = view.touched ++ 0 ∷ [] }

  -- A further seat with this share, which knows what this one knows and has no places.
  abbrev pub view_further : List ℕ → SeatView T → SeatView T
  view_further share view = record { known = view.known; joined = []; seen = []; places = []; share = share; stage = Idle; touched = [] }

  -- a seat from which a further one was made, by a load of the version; this share is left to it
  abbrev pub view_split : List ℕ → SeatView T → SeatView T
  view_split share view = record view { share = share; touched = view.touched ++ 0 ∷ [] }

  -- a seat that takes in another one by a load of the version, except what the other knows
  abbrev pub view_merged : SeatView T → SeatView T → SeatView T
  view_merged view other = record view { joined = other.known; seen = view.seen ++ other.seen; places = places_merge view.places other.places; share = view.share ++ other.share; touched = (view.touched ++ other.touched) ++ 0 ∷ [] }

  abbrev pub view_spent : SeatView T
  view_spent = record { known = []; joined = []; seen = []; places = []; share = []; stage = Idle; touched = [] }

  abbrev pub seated_stage : List ℕ → Stage → Seated T → Seated T
  seated_stage words stage seat = (view_stage words stage seat.0, seat.1)

  abbrev pub reader_of : TableId → SeatView T → Reader T
  reader_of cell view = record { cell = cell; known = view.known; seen = view.seen; touched = view.touched }

  abbrev pub writer_of : TableId → SeatView T → Writer T
  writer_of cell view = record { cell = cell; known = view.known; seen = view.seen; places = view.places; share = view.share; touched = view.touched }

  -- The store or load of a word of bytes stands for those of its bytes, in rising order with nothing between.
  abbrev pub WordStep : ℕ → Step (Unit {0}) → Seated T → ℕ → Seated T → Type 0
  WordStep size step before word after = after ≡ (view_bytes step.word (bytes_of_word (bytes_at size step.word) word) before.0, before.1)

  -- the store of an even version: if the stored bytes encode a value, it is finished
  abbrev pub EndStep : (T → List ℕ → Type 0) → Step (Unit {0}) → Seated T → ℕ → Seated T → Type 0
  EndStep IsEncoding step before word after = (value : T) (bytes : List ℕ) → IsEncoding value bytes → before.0.stage ≡ Writing bytes → after ≡ (view_end value before.0, before.1)

  -- a read that loads its first version again, and that version is even, has loaded a front of the value of that version
  abbrev pub IsFrontOf : (T → List ℕ → Type 0) → List T → ℕ → Stage → Type 0
  IsFrontOf IsEncoding known version Idle = Unit {0}
  IsFrontOf IsEncoding known version (Reading first loaded) = version ≡ first → IsEven first → (value : T) × (bytes : List ℕ) × IsEncoding value bytes × (history_value known version ≡ Some value) × (loaded ≡ take (length loaded) bytes)
  IsFrontOf IsEncoding known version (Writing stored) = Unit {0}

-- a load of the version, as the seat's view shows it
pub record ViewLoads {T : Type 0} (IsEncoding : T → List ℕ → Type 0) (before after : SeatView T) (version : ℕ) : Type 0 where
  pub seen : after.seen ≡ before.seen ++ version ∷ []
  pub later : All (λ earlier. earlier ≤ version) before.seen
  pub known : Begins before.known after.known
  pub joined : Begins before.joined after.known
  pub up_to : length after.known ≡ version / 2 + 1
  pub places : after.places ≡ before.places
  pub rising : IsRising before.places
  pub inside : All (λ place. (0 < place) × (place < length after.known)) before.places
  pub share : after.share ≡ before.share
  pub whole : IsWhole before.share → HoldsEach (length after.known) before.places
  pub stage : after.stage ≡ Reading version []
  pub touched : after.touched ≡ before.touched ++ 0 ∷ []
  pub front : IsFrontOf IsEncoding after.known version before.stage

abbrev pub LoadVersionStep : {T : Type 0} → (T → List ℕ → Type 0) → Step (Unit {0}) → Seated T → ℕ → Seated T → Type 0
LoadVersionStep IsEncoding step before word after = ViewLoads IsEncoding before.0 after.0 word × (after.1 ≡ before.1)

-- The version that was loaded is now the next one, and the seat knows the history up to it.
pub record ViewClaims {T : Type 0} (before after : SeatView T) (version : ℕ) : Type 0 where
  pub history : List T
  pub known : Begins before.known history
  pub up_to : length history ≡ version / 2 + 1
  pub begun : after ≡ view_stage (0 ∷ []) (Writing []) (record before { known = history })

-- The compare-and-exchange of an even version for the next odd one: it finds the version, or loads another one.
abbrev pub ClaimStep : {T : Type 0} → (T → List ℕ → Type 0) → Step (Unit {0}) → Seated T → ℕ → Seated T → Type 0
ClaimStep IsEncoding step before word after = (word ≡ step.first → ViewClaims before.0 after.0 word) × (word ≢ step.first → ViewLoads IsEncoding before.0 after.0 word) × (after.1 ≡ before.1)
