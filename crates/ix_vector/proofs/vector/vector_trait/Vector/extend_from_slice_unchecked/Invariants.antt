use Rattle.std.proofs.Common.{◌≡◌, take}
use Rattle.ix_vector.specs.VectorSteps.{vec_extend}
use Rattle.ix_vector.proofs.vector.vector_trait.Vector.extend_from_slice_unchecked.Given as goal

abbrev pub invariant-loop-item : goal.invariant-loop-item
invariant-loop-item g l = g.Self.Vector.bounded l.self ≡ vec_extend (g.Self.Vector.bounded l.initial.self) (take l.item-index l.other)
