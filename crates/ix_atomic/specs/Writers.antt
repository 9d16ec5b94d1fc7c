-- Writers of one cell. Each finished write has a place in the history, and the writer's seat that it was made with has that place.
use Rattle.std.specs.Prelude.{◌≡◌, ◌⊎◌, ℕ, ◌<◌, ◌≤◌, List, [], ◌∷◌, ◌++◌, cond, nat_lt, length, All, codes}
use Rattle.std.specs.List.{AllPairs, Contains}
use Rattle.atomic_table.specs.Seated.{TableId}
use Rattle.ix_atomic.specs.declared.sequenced.errors.TryWriteError.{TryWriteError}
use Rattle.ix_atomic.specs.declared.sequenced.errors.TryWriteError.TheVariants.{Busy, VersionsUsedUp}
use Rattle.ix_atomic.specs.Versions.{last_version, versions_used_up_text}
use Rattle.ix_atomic.specs.History.{Begins, IsEven, IsOdd, Reader, Loads, LoadsTwice, version_of}

-- a writer's seat: the fields of a reader's seat, the places in the history of the values that were written with it, and its share
-- of the right to write
pub record Writer (T : Type 0) : Type 0 where
  pub cell : TableId
  pub known : List T
  pub seen : List ℕ
  pub places : List ℕ
  pub share : List ℕ
  pub touched : List ℕ

-- the seat without its places and its share
abbrev pub as_reader : {T : Type 0} → Writer T → Reader T
as_reader writer = record { cell = writer.cell; known = writer.known; seen = writer.seen; touched = writer.touched }

abbrev pub IsRising : List ℕ → Type 0
IsRising places = AllPairs (λ earlier later. earlier < later) places

-- the places of a seat rise, and it knows the values there; the opening value, at place 0, is nobody's
abbrev pub AreOwn : {T : Type 0} → Writer T → Type 0
AreOwn writer = IsRising writer.places × All (λ place. (0 < place) × (place < length writer.known)) writer.places

-- each place of a history of so many values is in the list, except the opening value's
abbrev pub HoldsEach : ℕ → List ℕ → Type 0
HoldsEach count places = (place : ℕ) → 0 < place → place < count → Contains places place

-- no place is in both lists
abbrev pub AreApart : List ℕ → List ℕ → Type 0
AreApart places others = (place : ℕ) → Contains places place → Contains others place → ⊥

-- the place stands before the first greater one
abbrev pub places_insert : List ℕ → ℕ → List ℕ
places_insert [] place = place ∷ []
places_insert (first ∷ rest) place = cond (nat_lt place first) (place ∷ first ∷ rest) (first ∷ places_insert rest place)

-- the places of both lists, each before the greater ones
abbrev pub places_merge : List ℕ → List ℕ → List ℕ
places_merge places [] = places
places_merge places (other ∷ others) = places_insert (places_merge places others) other

-- A finished write. It begins at the history `earlier`, whose version the seat loads: the value is appended there, and its
-- place is the seat's.
pub record Writes {T : Type 0} (before after : Writer T) (value : T) : Type 0 where
  pub earlier : List T
  pub begins : Begins before.known earlier
  pub known : after.known ≡ earlier ++ value ∷ []
  pub places : after.places ≡ before.places ++ length earlier ∷ []
  pub seen : after.seen ≡ before.seen ++ version_of earlier ∷ []
  pub later : All (λ version. version ≤ version_of earlier) before.seen
  pub not_used_up : version_of earlier < last_version

-- A write that returns an error has loaded an odd version; or an even one and then, when it tried to begin, a later one; or the
-- last one.
abbrev pub Refuses : {T : Type 0} → Writer T → Writer T → TryWriteError → Type 0
Refuses before after (Busy loaded found) =
    (IsOdd loaded × (found ≡ loaded) × Loads (as_reader before) (as_reader after) loaded × (after.touched ≡ before.touched ++ 0 ∷ []))
    ⊎ (IsEven loaded × (loaded < last_version) × (loaded < found) × LoadsTwice (as_reader before) (as_reader after) loaded found × (after.touched ≡ before.touched ++ 0 ∷ 0 ∷ []))
Refuses before after VersionsUsedUp = Loads (as_reader before) (as_reader after) last_version × (after.touched ≡ before.touched ++ 0 ∷ [])

abbrev pub try_write_text : TryWriteError → List ℕ
try_write_text (Busy loaded found) = codes "another write is in progress or came first"
try_write_text VersionsUsedUp = versions_used_up_text

abbrev pub unfinished_text : List ℕ
unfinished_text = codes "a write is in progress"
