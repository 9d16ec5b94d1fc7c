-- The steps of a semantic string: the result of a call whose change would lead to a certain text, the candidate.
use Rattle.std.specs.Prelude.{ℕ, ◌≡◌, ◌+◌, ◌<◌, ◌≤◌, List, length, nat_le, if◌then◌else◌, Result, Ok, Err}
use Rattle.std.specs.List.{remove_range}
use Rattle.ix_semantic_string.specs.Rules.{TextRules, IsAccepted}
use Rattle.ix_semantic_string.specs.declared.semantic_string.semantic_string_error.SemanticStringError.{SemanticStringError}
use Rattle.ix_semantic_string.specs.declared.semantic_string.semantic_string_error.SemanticStringError.TheVariants.{InvalidContent, ExceedsMaximumLength}

-- the value if the candidate is accepted; a lack of room is reported before all else
abbrev pub SemanticResult : {X : Type 0} → ℕ → TextRules → List ℕ → X → Result X SemanticStringError → Type 0
SemanticResult capacity rules candidate value (Ok x) = IsAccepted capacity rules candidate × (x ≡ value)
SemanticResult capacity rules candidate value (Err InvalidContent) = (length candidate ≤ capacity) × ¬ IsAccepted capacity rules candidate
SemanticResult capacity rules candidate value (Err ExceedsMaximumLength) = capacity < length candidate

-- the n bytes from index i on removed; the same text if there are fewer
abbrev pub text_without_range : List ℕ → ℕ → ℕ → List ℕ
text_without_range text i n = if nat_le (i + n) (length text) then remove_range text i (i + n) else text
