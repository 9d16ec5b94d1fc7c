-- The laws of the rules of unit names.
use Rattle.std.specs.Prelude.{ℕ, ◌≡◌, ◌||◌, List, [], ◌∷◌, not, refl}
use Rattle.std.specs.Char.{is_ascii_alphanumeric, to_ascii_lowercase}
use Rattle.std.specs.List.{list_any}
use Rattle.std.specs.Str.{str_to_ascii_lowercase}
use Rattle.std.proofs.Common.{◌∙◌, arith}
use Rattle.std.proofs.lemmas.Grind.{common_steps}
use Rattle.std.proofs.lemmas.List.Elements.{All-map}
use Rattle.std.proofs.lemmas.Str.Ascii.{lowercase-lowercase}
use Rattle.ix_string.specs.Text.{IsTextByte}
use Rattle.ix_names.specs.Rules.{IsAccepted}
use Rattle.examples.specs.UnitNames.{unit_name_rules}

-- a byte in lower case is a letter or a digit if and only if it was one
same_class : (b : ℕ) → is_ascii_alphanumeric (to_ascii_lowercase b) ≡ is_ascii_alphanumeric b
same_class b = grind (arith, common_steps)

same_test : (name : List ℕ) → list_any (λ b. not (is_ascii_alphanumeric b)) (str_to_ascii_lowercase name) ≡ list_any (λ b. not (is_ascii_alphanumeric b)) name
same_test [] = refl
same_test (b ∷ bs) = λ i. not (same_class b i) || same_test bs i

-- a normal form is accepted
pub lower_case-accepted : (name : List ℕ) → IsAccepted 16 unit_name_rules name → IsAccepted 16 unit_name_rules (str_to_ascii_lowercase name)
lower_case-accepted name accepted = record {
  fits = grind (arith, common_steps);
  text = All-map IsTextByte to_ascii_lowercase name (λ k d within. let here = accepted.text k d within in grind (arith, common_steps));
  content = grind (arith, common_steps);
  characters = same_test name ∙ accepted.characters;
}

-- a normal form is its own normal form
pub lower_case-twice : (name : List ℕ) → str_to_ascii_lowercase (str_to_ascii_lowercase name) ≡ str_to_ascii_lowercase name
lower_case-twice [] = refl
lower_case-twice (b ∷ bs) = λ i. lowercase-lowercase b i ∷ lower_case-twice bs i
