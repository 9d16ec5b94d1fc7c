use Rattle.std.proofs.Common.{◌≡◌, ◌-◌}
use Rattle.std.specs.Prelude.{replicate}
use Rattle.ix_vector.specs.VectorSteps.{vec_extend}
use Rattle.ix_vector.proofs.vector.vector_trait.Vector.resize.Given as goal

abbrev pub invariant-loop-i : goal.invariant-loop-i
invariant-loop-i g l =
    g.Self.Vector.bounded l.self ≡ vec_extend (g.Self.Vector.bounded l.initial.self) (replicate (l._i - l.len) l.item)
