-- How a slot map keeps its generations: in the word of each slot, which also says whether a value is there. No clause of a public
-- method cites this.
use Rattle.std.specs.Prelude.{◌≡◌, ℕ, ◌+◌, ◌*◌, ◌/◌, ◌%◌, ◌<◌, ◌≤◌, List, length, map, nat_eq, if◌then◌else◌, Option, Bool, true, false, IsSome, is_some, count_by, slice_index_or}
use Rattle.ix_slottable.specs.SlotTableState.{SlotTableState, value_at}
use Rattle.ix_slotmap.specs.Generations.{greatest_generation}

abbrev pub word_at : List ℕ → ℕ → ℕ
word_at words place = slice_index_or words place 0

-- the word of a retired slot: one more than that of a value with the greatest generation
abbrev pub retired_word : ℕ
retired_word = 8589934592

-- the generation in a word
abbrev pub word_generation : ℕ → ℕ
word_generation word = if nat_eq word retired_word then greatest_generation else word / 2

-- the generation in each word
abbrev pub word_generations : List ℕ → List ℕ
word_generations words = map word_generation words

module _ {C : Type 0} (is_retired : Option C → Bool) where
  -- twice the generation, and one more if a value is there; a retired slot has the word of one
  abbrev pub place_word : Option C → ℕ → ℕ
  place_word content generation = if is_retired content then retired_word else 2 * generation + (if is_some content then 1 else 0)

  -- a slot with this content can have this word
  abbrev pub IsWordOf : Option C → ℕ → Type 0
  IsWordOf content word = (generation : ℕ) × ((generation ≤ greatest_generation) × (word ≡ place_word content generation))

  -- each slot has a word, and so many are retired
  pub record HasWords (slots : SlotTableState C) (words : List ℕ) (retired : ℕ) : Type 0 where
    pub lengths : length words ≡ length slots.values
    pub each : (place : ℕ) → place < length slots.values → IsWordOf (value_at slots place) (word_at words place)
    pub counted : retired ≡ count_by is_retired slots.values

  -- the content of a slot that is neither free nor retired
  abbrev pub HoldsValue : Option C → Type 0
  HoldsValue content = IsSome content × (is_retired content ≡ false)

  -- each slot below the end whose word is odd has a value in it
  pub record MatchesWords (slots : SlotTableState C) (words : List ℕ) (end : ℕ) : Type 0 where
    pub within : end ≤ length slots.values
    pub worded : end ≤ length words
    pub held : (place : ℕ) → place < end → word_at words place % 2 ≡ 1 → HoldsValue (value_at slots place)

  -- no slot below the end whose word is odd has a value in it any more
  abbrev pub HasNoValues : SlotTableState C → List ℕ → ℕ → Type 0
  HasNoValues slots words end = (place : ℕ) → place < end → word_at words place % 2 ≡ 1 → is_retired (value_at slots place) ≡ true
