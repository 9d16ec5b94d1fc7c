use Rattle.std.proofs.Common.{◌≡◌, length}
use Rattle.ix_vector.specs.VectorSteps.{vec_truncate}
use Rattle.ix_vector.proofs.vector.vector_trait.Vector.truncate.Given as goal

abbrev pub invariant-loop-self : goal.invariant-loop-self
invariant-loop-self g l = vec_truncate (g.Self.Vector.bounded l.self) l.n ≡ vec_truncate (g.Self.Vector.bounded l.initial.self) l.n

abbrev pub decreases-loop-self : goal.decreases-loop-self
decreases-loop-self g l = length (g.Self.Vector.bounded l.self).items
