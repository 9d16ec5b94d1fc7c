-- The history of a sequenced cell, and what the holder of a seat knows of it. The history is the list of finished values in order,
-- the opening one first.
use Rattle.std.specs.Prelude.{◌≡◌, ℕ, zero, suc, ◌+◌, ◌-◌, ◌*◌, ◌/◌, ◌%◌, ◌≤◌, List, [], ◌∷◌, ◌++◌, length, Option, slice_get, All, codes}
use Rattle.atomic_table.specs.Seated.{TableId}
use Rattle.ix_atomic.specs.Words.{word_count}

-- the version after the last finished value
abbrev pub version_of : {T : Type 0} → List T → ℕ
version_of history = 2 * (length history - 1)

-- the value of an even version
abbrev pub history_value : {T : Type 0} → List T → ℕ → Option T
history_value history version = slice_get history (version / 2)

abbrev pub last_value : {T : Type 0} → List T → Option T
last_value history = slice_get history (length history - 1)

abbrev pub IsEven : ℕ → Type 0
IsEven version = version % 2 ≡ 0

-- during a write the version is odd
abbrev pub IsOdd : ℕ → Type 0
IsOdd version = version % 2 ≡ 1

-- the first list is a beginning of the second
abbrev pub Begins : {T : Type 0} → List T → List T → Type 0
Begins {T} items list = (rest : List T) × (list ≡ items ++ rest)

-- the numbers of so many words of bytes, in order: word 0 is the version
abbrev pub data_words : ℕ → List ℕ
data_words zero = []
data_words (suc count) = data_words count ++ suc count ∷ []

-- all words of a value of this size: the version, each word of bytes, and the version again
abbrev pub all_words : ℕ → List ℕ
all_words size = 0 ∷ (data_words (word_count size) ++ 0 ∷ [])

-- a reader's seat: its cell, the beginning of the history that it knows, and the versions and words that it has loaded, in order
pub record Reader (T : Type 0) : Type 0 where
  pub cell : TableId
  pub known : List T
  pub seen : List ℕ
  pub touched : List ℕ

-- One load of the version by a reader's seat. No version that the seat had loaded or knew of is greater; then the seat knows
-- the history up to it.
pub record Loads {T : Type 0} (before after : Reader T) (version : ℕ) : Type 0 where
  pub cell : after.cell ≡ before.cell
  pub seen : after.seen ≡ before.seen ++ version ∷ []
  pub later : All (λ earlier. earlier ≤ version) before.seen
  pub least : version_of before.known ≤ version
  pub known : Begins before.known after.known
  pub up_to : length after.known ≡ version / 2 + 1

-- two loads of the version, one after the other
pub record LoadsTwice {T : Type 0} (before after : Reader T) (first last : ℕ) : Type 0 where
  pub between : Reader T
  pub first_load : Loads before between first
  pub last_load : Loads between after last
  pub order : first ≤ last

abbrev pub interfered_text : List ℕ
interfered_text = codes "a write interfered with the read"
