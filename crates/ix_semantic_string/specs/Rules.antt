-- The rules of a semantic string, and which texts they accept.
use Rattle.std.specs.Prelude.{ℕ, ◌≡◌, ◌≤◌, List, length, Bool, false}
use Rattle.std.specs.declared.cmp.Ordering.{Ordering}
use Rattle.std.specs.Ordering.{on}
use Rattle.ix_string.specs.Text.{IsText, text_eq, text_cmp}

-- the results of the functions of rules: two tests for texts that are not accepted, and the normal form of those that are
pub record TextRules : Type 0 where
  pub invalid_content : List ℕ → Bool
  pub invalid_characters : List ℕ → Bool
  pub normal_form : List ℕ → List ℕ

-- the bytes do not exceed the capacity, are text, and pass both tests
pub record IsAccepted (capacity : ℕ) (rules : TextRules) (bytes : List ℕ) : Type 0 where
  pub fits : length bytes ≤ capacity
  pub text : IsText bytes
  pub content : rules.invalid_content bytes ≡ false
  pub characters : rules.invalid_characters bytes ≡ false

-- two texts mean the same if their normal forms are equal
abbrev pub means_the_same : TextRules → List ℕ → List ℕ → Bool
means_the_same rules = on rules.normal_form text_eq

-- texts are ordered as the bytes of their normal forms
abbrev pub compare_meanings : TextRules → List ℕ → List ℕ → Ordering
compare_meanings rules = on rules.normal_form text_cmp
