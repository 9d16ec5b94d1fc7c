use Rattle.std.proofs.Common.{◌≡◌, length, take}
use Rattle.examples.proofs.queues.allocated.Given as goal

abbrev pub invariant-loop-item : goal.invariant-loop-item
invariant-loop-item g l = (l.queue.items ≡ take l.item-index l.items) × (l.queue.capacity ≡ length l.items)
