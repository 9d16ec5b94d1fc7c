-- Two sample rules: names of groups, and texts whose trailing slashes mean nothing.
use Rattle.std.specs.Prelude.{ℕ, ◌-◌, ◌==◌, ◌||◌, List, [], ◌∷◌, length, take, max, Bool, true, false, not}
use Rattle.std.specs.Char.{is_ascii_digit, is_ascii_lowercase}
use Rattle.std.specs.List.{list_any, suffix_len}
use Rattle.ix_semantic_string.specs.Rules.{TextRules}

abbrev pub is_dash : ℕ → Bool
is_dash b = b == 45

abbrev pub is_slash : ℕ → Bool
is_slash b = b == 47

-- names are not empty, and begin with neither a digit nor a dash
abbrev pub is_no_group_name : List ℕ → Bool
is_no_group_name [] = true
is_no_group_name (b ∷ bs) = is_dash b || is_ascii_digit b

-- lower-case letters, digits and dashes make names, and each name is its own normal form
abbrev pub group_name_rules : TextRules
group_name_rules = record {
  invalid_content = is_no_group_name;
  invalid_characters = list_any (λ b. not (is_ascii_lowercase b || (is_ascii_digit b || is_dash b)));
  normal_form = λ name. name;
}

-- slashes at the end removed, except the first byte
abbrev pub without_trailing_slashes : List ℕ → List ℕ
without_trailing_slashes text = take (max 1 (length text - suffix_len is_slash text)) text

-- every text is accepted, and slashes at its end mean nothing
abbrev pub trailing_slash_rules : TextRules
trailing_slash_rules = record {
  invalid_content = λ _. false;
  invalid_characters = λ _. false;
  normal_form = without_trailing_slashes;
}
