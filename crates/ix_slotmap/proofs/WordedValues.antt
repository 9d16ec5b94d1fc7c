-- The values that words say are left in places, while those of the least places are dropped.
use Rattle.std.proofs.Common.{◌≡◌, ℕ, ◌+◌, ◌%◌, ◌<◌, ◌≤◌, List, length, Option, Some, None, Bool, true, false, IsSome, inl, inr, refl, sym, ◌∙◌, subst, arith}
use Rattle.std.specs.Prelude.{◌*◌, ◌⊎◌, if◌then◌else◌, is_some}
use Rattle.std.proofs.Math.Nat.{eq-or-lt_of_le}
use Rattle.std.proofs.lemmas.List.{length-set, get_or-set_same, get_or-set_other}
use Rattle.ix_slottable.specs.SlotTableState.{SlotTableState, value_at}
use Rattle.ix_slottable.specs.SlotTableSteps.{slot_table_set}
use Rattle.ix_slotmap.specs.inner.Words.{word_at, retired_word, IsWordOf, HoldsValue, HasWords, MatchesWords, HasNoValues}

swap : {A B : Type 0} → A ⊎ B → B ⊎ A
swap (inl a) = inr a
swap (inr b) = inl b

split_below : (place index : ℕ) → place < index + 1 → (place < index) ⊎ (place ≡ index)
split_below place index below = swap (eq-or-lt_of_le (omega (arith, below)))

module _ {C : Type 0} (is_retired : Option C → Bool) where
  -- what has an odd word is a value
  HoldsValue-odd : (content : Option C) (word : ℕ) → IsWordOf is_retired content word → word % 2 ≡ 1 → HoldsValue is_retired content
  HoldsValue-odd content word is odd = go (is_retired content) (is_some content) refl refl is.1.1
    where
      go : (retired some : Bool) → is_retired content ≡ retired → is_some content ≡ some → word ≡ (if retired then retired_word else 2 * is.0 + (if some then 1 else 0)) → HoldsValue is_retired content
      go true some at there same = absurd (omega (arith, same, odd))
      go false false at there same = absurd (omega (arith, same, odd))
      go false true at there same = (there, at)

  -- each place whose word is odd has a value in it
  pub MatchesWords-all : (slots : SlotTableState C) (words : List ℕ) (retired : ℕ) → HasWords is_retired slots words retired → MatchesWords is_retired slots words (length slots.values)
  MatchesWords-all slots words retired has = record {
    within = omega arith;
    worded = let long = has.lengths in omega (arith, long);
    held = λ place below odd. HoldsValue-odd (value_at slots place) (word_at words place) (has.each place below) odd;
  }

  pub held_content : (content : Option C) → HoldsValue is_retired content → IsSome content
  held_content content holds = holds.0

  pub held_value : (content : Option C) (value : C) → content ≡ Some value → HoldsValue is_retired content → is_retired (Some value) ≡ false
  held_value content value is holds = subst (λ c. is_retired c ≡ false) is holds.1

  -- of the places from this index on and below the end, each whose word is odd has a value in it, and none before has one
  pub record MatchesFrom (slots : SlotTableState C) (words : List ℕ) (index end : ℕ) : Type 0 where
    pub within : end ≤ length slots.values
    pub worded : end ≤ length words
    pub dropped : HasNoValues is_retired slots words index
    pub held : (place : ℕ) → index ≤ place → place < end → word_at words place % 2 ≡ 1 → HoldsValue is_retired (value_at slots place)

  pub MatchesFrom-all : (slots : SlotTableState C) (words : List ℕ) (end : ℕ) → MatchesWords is_retired slots words end → MatchesFrom slots words 0 end
  MatchesFrom-all slots words end matches = record {
    within = matches.within;
    worded = matches.worded;
    dropped = λ place below odd. absurd (omega (arith, below));
    held = λ place from below odd. matches.held place below odd;
  }

  -- the place at the index has no value
  pub MatchesFrom-next : (slots : SlotTableState C) (words : List ℕ) (index end : ℕ) → (word_at words index % 2 ≡ 1 → ⊥) → MatchesFrom slots words index end → MatchesFrom slots words (index + 1) end
  MatchesFrom-next slots words index end even matches = record {
    within = matches.within;
    worded = matches.worded;
    dropped = λ place below odd. go place below odd (split_below place index below);
    held = λ place from below odd. matches.held place (omega (arith, from)) below odd;
  }
    where
      go : (place : ℕ) → place < index + 1 → word_at words place % 2 ≡ 1 → (place < index) ⊎ (place ≡ index) → is_retired (value_at slots place) ≡ true
      go place below odd (inl less) = matches.dropped place less odd
      go place below odd (inr same) = absurd (even (subst (λ p. word_at words p % 2 ≡ 1) same odd))

  -- the value at the index is moved out
  pub MatchesFrom-taken : (slots : SlotTableState C) (words : List ℕ) (index end place : ℕ) (left : C) → place ≡ index → index < end → is_retired (Some left) ≡ true
      → MatchesFrom slots words index end → MatchesFrom (slot_table_set slots place left) words (index + 1) end
  MatchesFrom-taken slots words index end place left is below-end retired matches = record {
    within = let same = length-set slots.values place (Some left) in let most = matches.within in omega (arith, same, most);
    worded = matches.worded;
    dropped = λ other below odd. go other odd (split_below other index below);
    held = λ other from below odd. subst (HoldsValue is_retired)
        (sym (get_or-set_other slots.values place other (Some left) None (λ same. omega (arith, from, is, same))))
        (matches.held other (omega (arith, from)) below odd);
  }
    where
      go : (other : ℕ) → word_at words other % 2 ≡ 1 → (other < index) ⊎ (other ≡ index) → is_retired (value_at (slot_table_set slots place left) other) ≡ true
      go other odd (inl less) = subst (λ c. is_retired c ≡ true)
          (sym (get_or-set_other slots.values place other (Some left) None (λ same. omega (arith, less, is, same))))
          (matches.dropped other less odd)
      go other odd (inr same) = subst (λ p. is_retired (value_at (slot_table_set slots place left) p) ≡ true) (is ∙ sym same)
          (subst (λ c. is_retired c ≡ true) (sym (get_or-set_same slots.values place (Some left) None (let most = matches.within in omega (arith, is, below-end, most)))) retired)
