-- What the word of a place says, and the words after each step of a slot map.
use Rattle.std.proofs.Common.{◌≡◌, ℕ, zero, suc, ◌∷◌, ◌+◌, ◌*◌, ◌/◌, ◌%◌, ◌<◌, ◌≤◌, ◌↔◌, inl, inr, List, length, set, get_or, Option, Some, None, IsSome, Bool, true, false, refl, sym, ap, ◌∙◌, subst, arith}
use Rattle.std.specs.Prelude.{IsTrue, if◌then◌else◌, count_by, nat_eq, map, replicate}
use Rattle.std.specs.Option.{option_flatten}
use Rattle.std.proofs.lemmas.Bool.{cases_eq, cases_lt, eqb-true, eq-eqb}
use Rattle.std.proofs.lemmas.Bool.Decides.{nat_tests}
use Rattle.std.proofs.Math.ListN.{get_or-map}
use Rattle.std.proofs.Math.Seq.{map-set_same}
use Rattle.std.proofs.lemmas.List.{set-get_or, get_or-set_same, get_or-set_other, get_or-replicate, length-map, length-replicate, length-set, map-set}
use Rattle.std.proofs.lemmas.List.Sums.{sum_by-set}
use Rattle.std.proofs.lemmas.List.Folds.{sum_by-replicate}
use Rattle.ix_tables.proofs.Places.{place_at_within}
use Rattle.ix_tables.specs.Places.{place_at}
use Rattle.ix_slottable.specs.SlotTableState.{SlotTableState, value_at, IsFree, IsWellFormed, slot_table_new}
use Rattle.ix_slotmap.specs.Generations.{SlotKey, SlotMapState, greatest_generation, generation_at, key_at, place_value, slot_map_value, IsRetired, is_retired, IsSlotMapFormed, slot_map_new}
use Rattle.ix_slottable.specs.SlotTableSteps.{slot_table_set, slot_table_fill, slot_table_vacate, SlotTableInsert, SlotTableInsertAt, SlotTableRemove}
use Rattle.ix_slotmap.specs.SlotMapSteps.{slot_map_fill, slot_map_replace, slot_map_vacate, slot_map_retire, SlotMapRemove}
use Rattle.ix_slottable.proofs.SlotTableSteps.{SlotTableInsert-fills, SlotTableInsertAt-fills, SlotTableRemove-vacates}
use Rattle.ix_tables.proofs.VacantTables.{place_at-replicate}
use Rattle.ix_slotmap.proofs.Generations.{one_if_retired, if_none, free_of_usable, retired_count-room}
use Rattle.ix_slotmap.proofs.SlotMapCounts.{SlotMapRemove-vacates, SlotMapRemove-retires}
use Rattle.ix_slotmap.specs.inner.Words.{word_at, retired_word, word_generation, word_generations, IsWordOf, HasWords}

word_generation-below : (word : ℕ) → word < retired_word → word_generation word ≡ word / 2
word_generation-below word below =
    let no : nat_eq word retired_word ≡ false = grind (arith, nat_tests) in ap (λ b. if b then greatest_generation else word / 2) no

word_generation-retired : (word : ℕ) → word ≡ retired_word → word_generation word ≡ greatest_generation
word_generation-retired word is = ap word_generation is

-- what contracts see of the places and their words
abbrev pub state_of : {T : Type 0} → SlotTableState (Option T) → List ℕ → SlotMapState T
state_of slots words = record { slots = slots; generations = word_generations words }

-- each place has a generation
pub generations-words : {T : Type 0} (slots : SlotTableState (Option T)) (words : List ℕ) (s : SlotMapState T) → length words ≡ length slots.values → state_of slots words ≡ s → length s.generations ≡ length s.slots.values
generations-words {T} slots words s same is = subst (λ (t : SlotMapState T). length t.generations ≡ length t.slots.values) is (length-map words word_generation ∙ same)

module _ {T : Type 0} (slots : SlotTableState (Option T)) (words : List ℕ) where
  pub generation_at-word : (place : ℕ) → generation_at (state_of slots words) place ≡ word_generation (word_at words place)
  generation_at-word place = get_or-map word_generation words place 0

  -- the generation stays if the new word has it
  pub generations-kept : (place word : ℕ) → word_generation word ≡ word_generation (word_at words place) → word_generations (set words place word) ≡ word_generations words
  generations-kept place word same = map-set_same word_generation words place word 0 same

  -- the generation is raised if the new word has the next one
  pub generations-raised : (place word : ℕ) → word_generation word ≡ word_generation (word_at words place) + 1
      → word_generations (set words place word) ≡ set (word_generations words) place (generation_at (state_of slots words) place + 1)
  generations-raised place word next =
      map-set word_generation words place word
      ∙ ap (set (word_generations words) place) (next ∙ ap (λ n. n + 1) (sym (generation_at-word place)))

  module _ (retired : ℕ) (has : HasWords is_retired slots words retired) where
    word_of : (place : ℕ) (content : Option (Option T)) → value_at slots place ≡ content → place < length slots.values → IsWordOf is_retired content (word_at words place)
    word_of place content at below = subst (λ c. IsWordOf is_retired c (word_at words place)) at (has.each place below)

    -- the word of a free place
    pub free_word : (place : ℕ) → place < length slots.values → value_at slots place ≡ None
        → (word_at words place ≡ 2 * generation_at (state_of slots words) place) × (generation_at (state_of slots words) place ≤ greatest_generation)
    free_word place below at =
        let is = word_of place None at below in
        let most = is.1.0 in
        let word = is.1.1 in
        let half = word_generation-below (word_at words place) (omega arith) in
        let seen = generation_at-word place in (omega arith, omega arith)

    -- the word of a place with a value
    pub held_word : (place : ℕ) (value : T) → place < length slots.values → value_at slots place ≡ Some (Some value)
        → (word_at words place ≡ 2 * generation_at (state_of slots words) place + 1) × (generation_at (state_of slots words) place ≤ greatest_generation)
    held_word place value below at =
        let is = word_of place (Some (Some value)) at below in
        let most = is.1.0 in
        let word = is.1.1 in
        let half = word_generation-below (word_at words place) (omega arith) in
        let seen = generation_at-word place in (omega arith, omega arith)

    -- the word of a retired place
    retired_word_at : (place : ℕ) → place < length slots.values → value_at slots place ≡ Some None
        → (word_at words place ≡ retired_word) × (generation_at (state_of slots words) place ≡ greatest_generation)
    retired_word_at place below at =
        let is = word_of place (Some None) at below in (is.1.1, generation_at-word place ∙ word_generation-retired (word_at words place) is.1.1)

    -- a place has a value exactly if its word is odd
    pub held_by_word : (place : ℕ) → place < length slots.values → IsTrue (nat_eq (word_at words place % 2) 1) ↔ IsSome (place_value (state_of slots words) place)
    held_by_word place below = go (value_at slots place) refl
      where
        go : (content : Option (Option T)) → value_at slots place ≡ content → IsTrue (nat_eq (word_at words place % 2) 1) ↔ IsSome (option_flatten (value_at slots place))
        go None at = let word = free_word place below at in (
          λ odd. let one = eqb-true (word_at words place % 2) 1 odd in absurd (omega (arith, word.0, one)),
          λ held. absurd (let no = subst (λ c. IsSome (option_flatten c)) at held in cc),
        )
        go (Some None) at = let word = retired_word_at place below at in (
          λ odd. let one = eqb-true (word_at words place % 2) 1 odd in absurd (omega (arith, word.0, one)),
          λ held. absurd (let no = subst (λ c. IsSome (option_flatten c)) at held in cc),
        )
        go (Some (Some value)) at = let word = held_word place value below at in (
          λ odd. subst (λ c. IsSome (option_flatten c)) (sym at) refl,
          λ held. eq-eqb (word_at words place % 2) 1 (omega (arith, word.0)),
        )

    -- a place is free exactly if its word is even and less than that of a retired place
    pub free_by_word : (place : ℕ) → place < length slots.values → ((word_at words place % 2 ≡ 0) × (word_at words place < retired_word)) ↔ (value_at slots place ≡ None)
    free_by_word place below = go (value_at slots place) refl
      where
        go : (content : Option (Option T)) → value_at slots place ≡ content → ((word_at words place % 2 ≡ 0) × (word_at words place < retired_word)) ↔ (value_at slots place ≡ None)
        go None at = let word = free_word place below at in (λ even. at, λ free. (omega (arith, word.0), omega (arith, word.0, word.1)))
        go (Some None) at = let word = retired_word_at place below at in (
          λ even. absurd (let less = even.1 in omega (arith, word.0, less)),
          λ free. absurd (let no : Some None ≡ None = sym at ∙ free in cc),
        )
        go (Some (Some value)) at = let word = held_word place value below at in (
          λ even. absurd (let zero = even.0 in omega (arith, word.0, zero)),
          λ free. absurd (let no : Some (Some value) ≡ None = sym at ∙ free in cc),
        )

    -- a place is retired exactly if its word is that of such places
    pub retired_by_word : (place : ℕ) → place < length slots.values → IsTrue (nat_eq (word_at words place) retired_word) ↔ IsRetired (state_of slots words) place
    retired_by_word place below = go (value_at slots place) refl
      where
        go : (content : Option (Option T)) → value_at slots place ≡ content → IsTrue (nat_eq (word_at words place) retired_word) ↔ (value_at slots place ≡ Some None)
        go None at = let word = free_word place below at in (
          λ same. let is = eqb-true (word_at words place) retired_word same in absurd (omega (arith, word.0, word.1, is)),
          λ retired. absurd (let no : Some None ≡ None = sym retired ∙ at in cc),
        )
        go (Some None) at = let word = retired_word_at place below at in (
          λ same. at,
          λ retired. eq-eqb (word_at words place) retired_word word.0,
        )
        go (Some (Some value)) at = let word = held_word place value below at in (
          λ same. let is = eqb-true (word_at words place) retired_word same in absurd (omega (arith, word.0, word.1, is)),
          λ retired. absurd (let no : Some (Some value) ≡ Some None = sym at ∙ retired in cc),
        )

    -- a key is held exactly if its place has this word
    pub key_by_word : (key : SlotKey) → key.index < length slots.values → IsTrue (nat_eq (word_at words key.index) (2 * key.generation + 1)) ↔ IsSome (slot_map_value (state_of slots words) key)
    key_by_word key below = go (value_at slots key.index) refl
      where
        unheld : (content : Option (Option T)) → value_at slots key.index ≡ content → option_flatten content ≡ None → IsSome (slot_map_value (state_of slots words) key) → ⊥
        unheld content at none held =
            let nothing : slot_map_value (state_of slots words) key ≡ None = if_none _ _ (ap option_flatten at ∙ none) in
            let no = subst IsSome nothing held in absurd (cc)

        either : (b : Bool) (value : T) → nat_eq (generation_at (state_of slots words) key.index) key.generation ≡ b → value_at slots key.index ≡ Some (Some value)
            → IsSome (slot_map_value (state_of slots words) key) → b ≡ true
        either true value is at held = refl
        either false value is at held =
            let nothing = subst (λ b. IsSome (if b then place_value (state_of slots words) key.index else None)) is held in absurd (cc)

        go : (content : Option (Option T)) → value_at slots key.index ≡ content → IsTrue (nat_eq (word_at words key.index) (2 * key.generation + 1)) ↔ IsSome (slot_map_value (state_of slots words) key)
        go None at = let word = free_word key.index below at in (
          λ same. let is = eqb-true (word_at words key.index) (2 * key.generation + 1) same in absurd (omega (arith, word.0, is)),
          λ held. absurd (unheld None at refl held),
        )
        go (Some None) at = let word = retired_word_at key.index below at in (
          λ same. let is = eqb-true (word_at words key.index) (2 * key.generation + 1) same in absurd (omega (arith, word.0, is)),
          λ held. absurd (unheld (Some None) at refl held),
        )
        go (Some (Some value)) at = let word = held_word key.index value below at in (
          λ same.
              let is = eqb-true (word_at words key.index) (2 * key.generation + 1) same in
              let yes : nat_eq (generation_at (state_of slots words) key.index) key.generation ≡ true = eq-eqb _ _ (omega (arith, word.0, is)) in
              subst (λ b. IsSome (if b then place_value (state_of slots words) key.index else None)) (sym yes) (subst (λ c. IsSome (option_flatten c)) (sym at) refl),
          λ held.
              let same = eqb-true _ _ (either _ value refl at held) in
              eq-eqb (word_at words key.index) (2 * key.generation + 1) (omega (arith, word.0, same)),
        )

    -- the generation of a place that is not retired
    pub generation_by_word : (place : ℕ) → place < length slots.values → (IsRetired (state_of slots words) place → ⊥)
        → (word_at words place / 2 ≡ generation_at (state_of slots words) place) × (generation_at (state_of slots words) place ≤ greatest_generation)
    generation_by_word place below in_use = go (value_at slots place) refl
      where
        go : (content : Option (Option T)) → value_at slots place ≡ content → (word_at words place / 2 ≡ generation_at (state_of slots words) place) × (generation_at (state_of slots words) place ≤ greatest_generation)
        go None at = let word = free_word place below at in (omega (arith, word.0), word.1)
        go (Some None) at = absurd (in_use at)
        go (Some (Some value)) at = let word = held_word place value below at in (omega (arith, word.0), word.1)

    -- a map is formed if its slots are
    pub IsSlotMapFormed-words : IsWellFormed slots → IsSlotMapFormed (state_of slots words)
    IsSlotMapFormed-words formed = record {
      listed_is_usable = λ place listed. (let free = formed.listed_is_free place listed in record {
        within = free.0;
        empty = ap option_flatten free.1;
        unretired = λ is. (let no : Some (let none : Option T = None in none) ≡ (let nothing : Option (Option T) = None in nothing) = sym is ∙ free.1 in absurd (cc));
      });
      usable_is_listed = λ place usable. formed.free_is_listed place (usable.within, free_of_usable _ usable.empty usable.unretired);
      generations = length-map words word_generation ∙ has.lengths;
      retired_is_last = λ place retired. (retired_word_at place (place_at_within slots.values place None retired) retired).1;
    }

    -- so many places are retired once a place gets another content, and each place has a word
    HasWords-set : (place : ℕ) (content : Option (Option T)) (word : ℕ) (slots' : SlotTableState (Option T)) (retired' : ℕ) → slots'.values ≡ set slots.values place content → place < length slots.values
        → IsWordOf is_retired content word → retired' + one_if_retired (value_at slots place) ≡ retired + one_if_retired content → HasWords is_retired slots' (set words place word) retired'
    HasWords-set place content word slots' retired' is below of counts =
        let long = has.lengths in
        let same_words = length-set words place word in
        let same_values = ap length is ∙ length-set slots.values place content in
        record {
          lengths = same_words ∙ (long ∙ sym same_values);
          each = λ other within. subst (λ values. IsWordOf is_retired (place_at values other) (word_at (set words place word) other)) (sym is) (elim (cases_eq other place) [
            | inl here ↦ subst (λ i. IsWordOf is_retired (place_at (set slots.values place content) i) (word_at (set words place word) i)) (sym here)
                (subst (λ c. IsWordOf is_retired c (word_at (set words place word) place)) (sym (get_or-set_same slots.values place content None below))
                (subst (IsWordOf is_retired content) (sym (get_or-set_same words place word 0 (omega arith))) of))
            | inr there ↦ subst (λ c. IsWordOf is_retired c (word_at (set words place word) other)) (sym (get_or-set_other slots.values place other content None there))
                (subst (IsWordOf is_retired (value_at slots other)) (sym (get_or-set_other words place other word 0 there)) (has.each other (omega arith)))
          ]);
          counted =
              let all = sum_by-set one_if_retired slots.values place content None below in
              let now = ap (count_by is_retired) is in
              let was = has.counted in omega arith;
        }

    both : (words' : List ℕ) {slots' t : SlotTableState (Option T)} {generations : List ℕ} → slots' ≡ t → word_generations words' ≡ generations → state_of slots' words' ≡ record { slots = t; generations = generations }
    both words' {slots'} {t} {generations} slots_are shown =
        ap (λ (u : SlotTableState (Option T)). let st : SlotMapState T = record { slots = u; generations = word_generations words' } in st) slots_are
        ∙ ap (λ (gs : List ℕ). let st : SlotMapState T = record { slots = t; generations = gs } in st) shown

    -- after a step the words are those of the places, and contracts see these generations in them
    pub record Stepped (slots' : SlotTableState (Option T)) (words' : List ℕ) (retired' : ℕ) (generations : List ℕ) : Type 0 where
      pub holds : HasWords is_retired slots' words' retired'
      pub shown : word_generations words' ≡ generations

    module _ (place : ℕ) (slots' : SlotTableState (Option T)) (words' : List ℕ) where
      -- a free place gets a value
      filled : (value : T) → place < length slots.values → value_at slots place ≡ None → slots'.values ≡ set slots.values place (Some (Some value)) → words' ≡ set words place (word_at words place + 1)
          → Stepped slots' words' retired (word_generations words)
      filled value below at values_are words_are =
          let word = free_word place below at in
          let seen = generation_at-word place in
          let half = word_generation-below (word_at words place + 1) (omega (arith, word.0, word.1)) in
          let was = ap one_if_retired at in
          let of : IsWordOf is_retired (Some (Some value)) (word_at words place + 1) = (generation_at (state_of slots words) place, (word.1, omega (arith, word.0))) in
          record {
            holds = subst (λ ws. HasWords (is_retired {T = T}) slots' ws retired) (sym words_are) (HasWords-set place (Some (Some value)) (word_at words place + 1) slots' retired values_are below of (omega (arith, was)));
            shown = ap word_generations words_are ∙ generations-kept place (word_at words place + 1) (omega (arith, word.0, seen, half));
          }

      module _ (old : T) (below : place < length slots.values) (at : value_at slots place ≡ Some (Some old)) where
        -- a place loses its value, and its generation can be raised
        vacated : generation_at (state_of slots words) place < greatest_generation → slots'.values ≡ set slots.values place None → words' ≡ set words place (word_at words place + 1)
            → Stepped slots' words' retired (set (word_generations words) place (generation_at (state_of slots words) place + 1))
        vacated less values_are words_are =
            let word = held_word place old below at in
            let seen = generation_at-word place in
            let half = word_generation-below (word_at words place + 1) (omega (arith, word.0, less)) in
            let was = ap one_if_retired at in
            let of : IsWordOf (is_retired {T = T}) None (word_at words place + 1) = (generation_at (state_of slots words) place + 1, (omega (arith, less), omega (arith, word.0))) in
            record {
              holds = subst (λ ws. HasWords (is_retired {T = T}) slots' ws retired) (sym words_are) (HasWords-set place None (word_at words place + 1) slots' retired values_are below of (omega (arith, was)));
              shown = ap word_generations words_are ∙ generations-raised place (word_at words place + 1) (omega (arith, word.0, seen, half));
            }

        -- a place gets another value, and its generation can be raised
        replaced : (value : T) → generation_at (state_of slots words) place < greatest_generation → slots'.values ≡ set slots.values place (Some (Some value)) → words' ≡ set words place (word_at words place + 2)
            → Stepped slots' words' retired (set (word_generations words) place (generation_at (state_of slots words) place + 1))
        replaced value less values_are words_are =
            let word = held_word place old below at in
            let seen = generation_at-word place in
            let half = word_generation-below (word_at words place + 2) (omega (arith, word.0, less)) in
            let was = ap one_if_retired at in
            let of : IsWordOf is_retired (Some (Some value)) (word_at words place + 2) = (generation_at (state_of slots words) place + 1, (omega (arith, less), omega (arith, word.0))) in
            record {
              holds = subst (λ ws. HasWords (is_retired {T = T}) slots' ws retired) (sym words_are) (HasWords-set place (Some (Some value)) (word_at words place + 2) slots' retired values_are below of (omega (arith, was)));
              shown = ap word_generations words_are ∙ generations-raised place (word_at words place + 2) (omega (arith, word.0, seen, half));
            }

        -- a place with the greatest generation loses its value
        retired_now : generation_at (state_of slots words) place ≡ greatest_generation → slots'.values ≡ set slots.values place (Some None) → words' ≡ set words place (word_at words place + 1)
            → Stepped slots' words' (retired + 1) (word_generations words)
        retired_now last values_are words_are =
            let word = held_word place old below at in
            let seen = generation_at-word place in
            let is : word_at words place + 1 ≡ retired_word = omega (arith, word.0, last) in
            let greatest = word_generation-retired (word_at words place + 1) is in
            let was = ap one_if_retired at in
            record {
              holds = subst (λ ws. HasWords (is_retired {T = T}) slots' ws (retired + 1)) (sym words_are) (HasWords-set place (Some None) (word_at words place + 1) slots' (retired + 1) values_are below (greatest_generation, (omega arith, is)) (omega (arith, was)));
              shown = ap word_generations words_are ∙ generations-kept place (word_at words place + 1) (omega (arith, last, seen, greatest));
            }

    -- no word is greater than that of a retired place
    pub word_within : (place : ℕ) → place < length slots.values → word_at words place ≤ retired_word
    word_within place below = go (value_at slots place) refl
      where
        go : (content : Option (Option T)) → value_at slots place ≡ content → word_at words place ≤ retired_word
        go None at = let word = free_word place below at in omega (arith, word.0, word.1)
        go (Some None) at = let word = retired_word_at place below at in omega (arith, word.0)
        go (Some (Some value)) at = let word = held_word place value below at in omega (arith, word.0, word.1)

    -- the value in a place
    held_content : (place : ℕ) → IsSome (place_value (state_of slots words) place) → (value : T) × (value_at slots place ≡ Some (Some value))
    held_content place held = go (value_at slots place) refl held
      where
        go : (content : Option (Option T)) → value_at slots place ≡ content → IsSome (option_flatten content) → (value : T) × (value_at slots place ≡ Some (Some value))
        go None at held = absurd (cc)
        go (Some None) at held = absurd (cc)
        go (Some (Some value)) at held = (value, at)

    -- the place of a value is not retired, so that there is room for one more retired place
    pub room_to_retire : (place : ℕ) → IsSome (place_value (state_of slots words) place) → retired < length slots.values
    room_to_retire place held =
        let was = held_content place held in
        let room = retired_count-room slots.values place was.0 (place_at_within slots.values place (Some was.0) was.1) was.1 in
        let counted = has.counted in omega (arith, room, counted)

    -- each call that changes a map, from what it does to the slots and the words: the slots are those of a key that equals the place
    module _ (s : SlotMapState T) (is : state_of slots words ≡ s) (place key : ℕ) (same : key ≡ place) (slots' : SlotTableState (Option T)) (words' : List ℕ) where
      pub inserts : (value : T) → SlotTableInsert slots (Some value) slots' (Some key) → words' ≡ set words place (word_at words place + 1)
          → HasWords is_retired slots' words' retired × (word_generations words' ≡ s.generations)
      inserts value step words_are =
          let slots_are = SlotTableInsert-fills slots (Some value) slots' key step ∙ ap (λ k. slot_table_fill slots k (Some value)) same in
          let free = subst (λ k. IsFree slots k) same step.was_free in
          let stepped = filled place slots' words' value free.0 free.1 (ap (λ (t : SlotTableState (Option T)). t.values) slots_are) words_are in
          (stepped.holds, stepped.shown ∙ ap (λ (t : SlotMapState T). t.generations) is)

      pub fills : (value : T) → IsFree s.slots place → SlotTableInsertAt slots key (Some value) slots' true → words' ≡ set words place (word_at words place + 1)
          → HasWords is_retired slots' words' retired × (state_of slots' words' ≡ slot_map_fill s place value)
      fills value is_free step words_are =
          let slots_are = SlotTableInsertAt-fills slots key (Some value) slots' step ∙ ap (λ k. slot_table_fill slots k (Some value)) same in
          let free = subst (λ (t : SlotMapState T). IsFree t.slots place) (sym is) is_free in
          let stepped = filled place slots' words' value free.0 free.1 (ap (λ (t : SlotTableState (Option T)). t.values) slots_are) words_are in
          (stepped.holds, both words' slots_are stepped.shown ∙ ap (λ t. slot_map_fill t place value) is)

      module _ (held : IsSome (place_value s place)) where
        was : (value : T) × (value_at slots place ≡ Some (Some value))
        was = held_content place (subst (λ t. IsSome (place_value t place)) (sym is) held)

        below : place < length slots.values
        below = place_at_within slots.values place (Some was.0) was.1

        vacates : (value : Option T) → generation_at s place < greatest_generation → SlotTableRemove slots key slots' (Some value) → words' ≡ set words place (word_at words place + 1)
            → HasWords is_retired slots' words' retired × (state_of slots' words' ≡ slot_map_vacate s place)
        vacates value less step words_are =
            let slots_are = SlotTableRemove-vacates slots key slots' value step ∙ ap (slot_table_vacate slots) same in
            let stepped = vacated place slots' words' was.0 below was.1 (subst (λ t. generation_at t place < greatest_generation) (sym is) less) (ap (λ (t : SlotTableState (Option T)). t.values) slots_are) words_are in
            (stepped.holds, both words' slots_are stepped.shown ∙ ap (λ t. slot_map_vacate t place) is)

        pub replaces : (value : T) → generation_at s place < greatest_generation → slots' ≡ slot_table_set slots key (Some value) → words' ≡ set words place (word_at words place + 2)
            → HasWords is_retired slots' words' retired × (state_of slots' words' ≡ slot_map_replace s place value)
        replaces value less sets words_are =
            let slots_are = sets ∙ ap (λ k. slot_table_set slots k (Some value)) same in
            let stepped = replaced place slots' words' was.0 below was.1 value (subst (λ t. generation_at t place < greatest_generation) (sym is) less) (ap (λ (t : SlotTableState (Option T)). t.values) slots_are) words_are in
            (stepped.holds, both words' slots_are stepped.shown ∙ ap (λ t. slot_map_replace t place value) is)

        retires : generation_at s place ≡ greatest_generation → slots' ≡ slot_table_set slots key None → words' ≡ set words place (word_at words place + 1)
            → HasWords is_retired slots' words' (retired + 1) × (state_of slots' words' ≡ slot_map_retire s place)
        retires last sets words_are =
            let slots_are = sets ∙ ap (λ k. slot_table_set slots k None) same in
            let stepped = retired_now place slots' words' was.0 below was.1 (subst (λ t. generation_at t place ≡ greatest_generation) (sym is) last) (ap (λ (t : SlotTableState (Option T)). t.values) slots_are) words_are in
            (stepped.holds, both words' slots_are stepped.shown ∙ ap (λ t. slot_map_retire t place) is)

        value_in : (content : Option T) (value : T) → value_at slots key ≡ Some content → content ≡ Some value → place_value s place ≡ Some value
        value_in content value at some =
            ap (λ t. place_value t place) (sym is) ∙ (ap (λ k. option_flatten (value_at slots k)) (sym same) ∙ (ap option_flatten at ∙ some))

        generations_len : length s.generations ≡ length s.slots.values
        generations_len =
            ap (λ (t : SlotMapState T). length t.generations) (sym is) ∙ (length-map words word_generation ∙ (has.lengths ∙ ap (λ (t : SlotMapState T). length t.slots.values) is))

        pub word_fits : word_at words place + 1 ≤ 18446744073709551615
        word_fits = let most = word_within place below in omega (arith, most)

        -- the word after that of the value is that of a retired place exactly if the generation is the greatest
        last_by_word : word_at words place + 1 ≡ retired_word → generation_at s place ≡ greatest_generation
        last_by_word last =
            let word = held_word place was.0 below was.1 in
            let same = ap (λ t. generation_at t place) is in omega (arith, word.0, same, last)

        less_by_word : (word_at words place + 1 ≡ retired_word → ⊥) → generation_at s place < greatest_generation
        less_by_word more =
            let word = held_word place was.0 below was.1 in
            let same = ap (λ t. generation_at t place) is in
            elim (cases_lt (generation_at s place) greatest_generation) [
              | inl less ↦ less
              | inr most ↦ absurd (more (omega (arith, word.0, word.1, same, most)))
            ]

        -- the key of the place is removed, and the place is free
        pub removes : (content : Option T) (value : T) → (word_at words place + 1 ≡ retired_word → ⊥) → SlotTableRemove slots key slots' (Some content) → content ≡ Some value
            → words' ≡ set words place (word_at words place + 1) → HasWords is_retired slots' words' retired × SlotMapRemove s (key_at s place) (state_of slots' words') (Some value)
        removes content value more step some words_are =
            let less = less_by_word more in
            let vacant = vacates content less step words_are in
            (vacant.0, SlotMapRemove-vacates s place generations_len value (value_in content value (sym step.value) some) (state_of slots' words') less vacant.1)

        -- the key of the place is removed, and the place is retired
        pub removes_last : (content : Option T) (value : T) → word_at words place + 1 ≡ retired_word → value_at slots key ≡ Some content → content ≡ Some value
            → slots' ≡ slot_table_set slots key None → words' ≡ set words place (word_at words place + 1)
            → HasWords is_retired slots' words' (retired + 1) × SlotMapRemove s (key_at s place) (state_of slots' words') (Some value)
        removes_last content value word at some sets words_are =
            let last = last_by_word word in
            let retires_it = retires last sets words_are in
            (retires_it.0, SlotMapRemove-retires s place generations_len value (value_in content value at some) (state_of slots' words') last retires_it.1)

        -- the next generation is read where it was written
        pub reads_raised : (new : SlotMapState T) → new.generations ≡ set s.generations place (generation_at s place + 1) → generation_at new place ≡ generation_at s place + 1
        reads_raised new raised =
            let long = ap (λ (t : SlotMapState T). length t.generations) (sym is) ∙ (length-map words word_generation ∙ has.lengths) in
            ap (λ gs. get_or gs place 0) raised ∙ get_or-set_same s.generations place (generation_at s place + 1) 0 (let within = below in omega (arith, long, within))

        -- a value that is written leaves the words
        pub writes : (value : T) → slots' ≡ slot_table_set slots key (Some value) → HasWords is_retired slots' words retired
        writes value sets =
            let slots_are = sets ∙ ap (λ k. slot_table_set slots k (Some value)) same in
            let word = held_word place was.0 below was.1 in
            let one = ap one_if_retired was.1 in
            subst (λ ws. HasWords (is_retired {T = T}) slots' ws retired) (set-get_or words place 0)
            (HasWords-set place (Some (Some value)) (word_at words place) slots' retired (ap (λ (t : SlotTableState (Option T)). t.values) slots_are) below
            (generation_at (state_of slots words) place, (word.1, word.0)) (omega (arith, one)))

module _ {T : Type 0} where
  -- every place of a new map is free, and has this generation
  pub HasWords-new : (slots : SlotTableState (Option T)) (words : List ℕ) (capacity n generation : ℕ) → slots ≡ slot_table_new capacity → n ≡ capacity → words ≡ replicate n (2 * generation) → generation ≤ greatest_generation
      → HasWords is_retired slots words 0
  HasWords-new slots words capacity n generation new as_many all most =
      let long = ap length all ∙ length-replicate n (2 * generation) in
      let places = ap (λ (s : SlotTableState (Option T)). length s.values) new ∙ length-replicate capacity None in
      record {
        lengths = long ∙ (as_many ∙ sym places);
        each = λ place below.
            let empty = ap (λ (s : SlotTableState (Option T)). value_at s place) new ∙ place_at-replicate capacity place in
            let word = ap (λ ws. word_at ws place) all ∙ get_or-replicate n place (2 * generation) 0 (omega arith) in
            subst (λ c. IsWordOf is_retired c (word_at words place)) (sym empty) (generation, (most, omega (arith, word)));
        counted = let none = sum_by-replicate (one_if_retired {T = T}) capacity None in let same = ap (λ (s : SlotTableState (Option T)). count_by is_retired s.values) new in omega (arith, none, same);
      }

map-replicate : (f : ℕ → ℕ) (n word : ℕ) → map f (replicate n word) ≡ replicate n (f word)
map-replicate f zero word = refl
map-replicate f (suc n) word = ap (λ ws. f word ∷ ws) (map-replicate f n word)

pub word_generations-new : (words : List ℕ) (n generation : ℕ) → words ≡ replicate n (2 * generation) → generation ≤ greatest_generation → word_generations words ≡ replicate n generation
word_generations-new words n generation all most =
    let half = word_generation-below (2 * generation) (omega arith) in
    let is : word_generation (2 * generation) ≡ generation = omega (arith, half) in
    ap word_generations all ∙ (map-replicate word_generation n (2 * generation) ∙ ap (replicate n) is)

-- contracts see a new map
pub new_state : {T : Type 0} (slots : SlotTableState (Option T)) (words : List ℕ) (capacity n generation : ℕ) → slots ≡ slot_table_new capacity → n ≡ capacity → words ≡ replicate n (2 * generation) → generation ≤ greatest_generation
    → state_of slots words ≡ slot_map_new capacity generation
new_state {T} slots words capacity n generation new as_many all most =
    let generations = word_generations-new words n generation all most ∙ ap (λ (k : ℕ). replicate k generation) as_many in
    ap (λ (u : SlotTableState (Option T)). let st : SlotMapState T = record { slots = u; generations = word_generations words } in st) new
    ∙ ap (λ (gs : List ℕ). let st : SlotMapState T = record { slots = slot_table_new capacity; generations = gs } in st) generations
