-- The texts of the error.
use Rattle.std.specs.Prelude.{ℕ, List, codes}
use Rattle.ix_vector.specs.declared.vector.modification_error.VectorModificationError.{VectorModificationError}
use Rattle.ix_vector.specs.declared.vector.modification_error.VectorModificationError.TheVariants.{OutOfBounds, InsertWouldExceedCapacity, OutOfMemory}

abbrev pub vec_error_text : VectorModificationError → List ℕ
vec_error_text OutOfBounds = codes "VectorModificationError::OutOfBounds"
vec_error_text InsertWouldExceedCapacity = codes "VectorModificationError::InsertWouldExceedCapacity"
vec_error_text OutOfMemory = codes "VectorModificationError::OutOfMemory"
