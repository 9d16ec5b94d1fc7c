-- `VectorRun` by its old names.
pub use Rattle.ix_commands.specs.VectorRun.{vec_extend_result, vector_reply as vec_reply, vector_after as vec_after}
