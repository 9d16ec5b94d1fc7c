-- Names of units: the strings that are names, and the names that mean the same.
use Rattle.std.specs.Prelude.{ℕ, ◌==◌, List, length, not}
use Rattle.std.specs.Char.{is_ascii_alphanumeric}
use Rattle.std.specs.List.{list_any}
use Rattle.std.specs.Str.{str_to_ascii_lowercase}
use Rattle.ix_names.specs.Rules.{TextRules}

-- letters and digits make names, no name is empty, and names in two cases mean the same
abbrev pub unit_name_rules : TextRules
unit_name_rules = record {
  invalid_content = λ name. length name == 0;
  invalid_characters = list_any (λ b. not (is_ascii_alphanumeric b));
  normal_form = str_to_ascii_lowercase;
}
