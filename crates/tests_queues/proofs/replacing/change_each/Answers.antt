use Rattle.ix_queue.proofs.QueueCalls.{IsCallableOnEachMut-always}
use Rattle.tests_queues.proofs.replacing.change_each.Goals as goal

pub for_each_mut-requires : goal.for_each_mut-requires
for_each_mut-requires g c = IsCallableOnEachMut-always g.F.FnMut _ _ c.requires
