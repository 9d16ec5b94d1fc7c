use Rattle.std.proofs.Common.{◌≡◌, length, take}
use Rattle.ix_queue.proofs.queue.meta_queue.MetaQueue.truncate.Given as goal

-- no item of the first `len` is removed
abbrev pub invariant-loop-self : goal.invariant-loop-self
invariant-loop-self g l =
    (take l.len l.self.items ≡ take l.len l.initial.self.items) × (l.self.capacity ≡ l.initial.self.capacity)

abbrev pub decreases-loop-self : goal.decreases-loop-self
decreases-loop-self g l = length l.self.items
