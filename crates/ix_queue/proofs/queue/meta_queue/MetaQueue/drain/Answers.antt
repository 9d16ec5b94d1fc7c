use Rattle.ix_queue.proofs.QueueDrains.{Drain-keeps_along}
use Rattle.ix_queue.proofs.queue.meta_queue.MetaQueue.drain.Goals as goal

pub returns-clause-stays : goal.returns-clause-stays
returns-clause-stays g c = Drain-keeps_along _
