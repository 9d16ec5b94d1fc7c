use Rattle.std.proofs.Common.{refl, ap}
use Rattle.ix_vector.proofs.VectorDrains.{YieldsFirst-last}
use Rattle.ix_vector.proofs.vector.drain.DrainIterator.next.Goals as goal

pub returns-clause-steps : goal.returns-clause-steps
returns-clause-steps g c = (
  YieldsFirst-last _ _ _ c.pop.ensures.value (ap (λ vector. vector.items) c.pop.ensures.vector),
  (refl, ap (λ vector. vector.capacity) c.pop.ensures.vector),
)
