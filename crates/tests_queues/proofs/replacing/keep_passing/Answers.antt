use Rattle.ix_queue.proofs.QueueCalls.{IsCallableOnEach-always}
use Rattle.tests_queues.proofs.replacing.keep_passing.Goals as goal

pub retain-requires : goal.retain-requires
retain-requires g c = IsCallableOnEach-always g.F.FnMut _ _ c.requires
