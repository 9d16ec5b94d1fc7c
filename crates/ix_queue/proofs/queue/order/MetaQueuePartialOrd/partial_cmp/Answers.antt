use Rattle.ix_queue.proofs.QueueOrders.{slice_partial_cmp-compared}
use Rattle.ix_queue.proofs.queue.order.MetaQueuePartialOrd.partial_cmp.Goals as goal

pub returns : goal.returns
returns g c =
    rw (← c.iter.ensures.items, ← c.iter-2.ensures.items) (slice_partial_cmp-compared g.T.PartialOrd.partial_cmp c.partial_cmp.result c.iter.result c.iter-2.result c.partial_cmp.ensures.ran)
