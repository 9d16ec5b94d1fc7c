use Rattle.std.proofs.Common.{rules}
use Rattle.std.proofs.lemmas.Fn.{filter_same}
use Rattle.ix_vector.proofs.vector.vector_trait.Vector.retain.Goals as goal

pub returns-clause-items : goal.returns-clause-items
returns-clause-items g c = search rules

pub returns-clause-filtered : goal.returns-clause-filtered
returns-clause-filtered g c test says = filter_same _ test _ says _ _ (returns-clause-items g c)
