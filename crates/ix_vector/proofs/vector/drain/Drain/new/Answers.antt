use Rattle.ix_vector.proofs.VectorDrains.{Drain-keeps_along}
use Rattle.ix_vector.proofs.vector.drain.Drain.new.Goals as goal

pub returns-clause-stays : goal.returns-clause-stays
returns-clause-stays g c = Drain-keeps_along g.V.Vector.bounded _
