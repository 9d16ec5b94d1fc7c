use Rattle.std.proofs.Common.{rules}
use Rattle.ix_queue.proofs.QueueCalls.{ChangesInTurn-map}
use Rattle.tests_queues.proofs.replacing.set_to_zero.Goals as goal

pub returns-clause-items : goal.returns-clause-items
returns-clause-items g c =
    ChangesInTurn-map _ (λ _. 0) _ (λ x y next k. search rules) _ _ c.for_each_mut.ensures.items.0 c.for_each_mut.ensures.items.1
