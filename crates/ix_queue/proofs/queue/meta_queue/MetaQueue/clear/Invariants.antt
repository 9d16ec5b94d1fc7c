use Rattle.std.proofs.Common.{◌≡◌, length}
use Rattle.ix_queue.proofs.queue.meta_queue.MetaQueue.clear.Given as goal

abbrev pub invariant-loop-item : goal.invariant-loop-item
invariant-loop-item g l = l.self.capacity ≡ l.initial.self.capacity

abbrev pub decreases-loop-item : goal.decreases-loop-item
decreases-loop-item g l = length l.self.items
