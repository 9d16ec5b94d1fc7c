-- The errors of semantic strings: the texts that `{}` prints of them, and the error of a semantic string for each error of a
-- string.
use Rattle.std.specs.Prelude.{ℕ, List, codes}
use Rattle.ix_string.specs.declared.string.modification_error.StringModificationError.{StringModificationError}
use Rattle.ix_string.specs.declared.string.modification_error.StringModificationError.TheVariants.{InvalidCharacter, InsertWouldExceedCapacity}
use Rattle.ix_semantic_string.specs.declared.semantic_string.semantic_string_error.SemanticStringError.{SemanticStringError}
use Rattle.ix_semantic_string.specs.declared.semantic_string.semantic_string_error.SemanticStringError.TheVariants.{InvalidContent, ExceedsMaximumLength}

abbrev pub semantic_error_text : SemanticStringError → List ℕ
semantic_error_text InvalidContent = codes "SemanticStringError::InvalidContent"
semantic_error_text ExceedsMaximumLength = codes "SemanticStringError::ExceedsMaximumLength"

abbrev pub semantic_error_of : StringModificationError → SemanticStringError
semantic_error_of InvalidCharacter = InvalidContent
semantic_error_of InsertWouldExceedCapacity = ExceedsMaximumLength
