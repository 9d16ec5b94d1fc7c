-- The texts that `{}` prints of errors.
use Rattle.std.specs.Prelude.{ℕ, List, codes}
use Rattle.ix_string.specs.declared.string.creation_error.StringCreationError.{StringCreationError}
use Rattle.ix_string.specs.declared.string.creation_error.StringCreationError.TheVariants as creation
use Rattle.ix_string.specs.declared.string.modification_error.StringModificationError.{StringModificationError}
use Rattle.ix_string.specs.declared.string.modification_error.StringModificationError.TheVariants.{InvalidCharacter, InsertWouldExceedCapacity}

abbrev pub string_error_text : StringModificationError → List ℕ
string_error_text InvalidCharacter = codes "StringModificationError::InvalidCharacter"
string_error_text InsertWouldExceedCapacity = codes "StringModificationError::InsertWouldExceedCapacity"

abbrev pub creation_error_text : StringCreationError → List ℕ
creation_error_text creation.InvalidCharacter = codes "StringCreationError::InvalidCharacter"
creation_error_text creation.OutOfMemory = codes "StringCreationError::OutOfMemory"
