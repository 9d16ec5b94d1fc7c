use Rattle.std.proofs.Common.{refl, ap}
use Rattle.ix_queue.proofs.Backs.{YieldsLast-back}
use Rattle.ix_queue.proofs.queue.drain.DrainDoubleEndedIterator.next_back.Goals as goal

pub returns-clause-steps : goal.returns-clause-steps
returns-clause-steps g c = (
  YieldsLast-back _ _ _ c.pop_back.ensures.value (ap (λ queue. queue.items) c.pop_back.ensures.queue),
  (refl, ap (λ queue. queue.capacity) c.pop_back.ensures.queue),
)
