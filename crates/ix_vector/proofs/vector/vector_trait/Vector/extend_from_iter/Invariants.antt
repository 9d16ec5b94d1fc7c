use Rattle.std.proofs.Common.{◌≡◌}
use Rattle.ix_tables.specs.Bounded.{IsWithin}
use Rattle.ix_vector.specs.VectorSteps.{vec_extend}
use Rattle.ix_vector.proofs.vector.vector_trait.Vector.extend_from_iter.Given as goal

abbrev pub invariant-loop-item : goal.invariant-loop-item
invariant-loop-item g l = (goal.iterator-loop-item g).can_next l.item-iterator
    × (goal.iterator-loop-item g).is_finite l.item-iterator
    × IsWithin (g.Self.Vector.bounded l.self)
    × (g.Self.Vector.bounded l.self ≡ vec_extend (g.Self.Vector.bounded l.initial.self) l.yielded)
