use Rattle.std.proofs.Common.{◌≡◌, drop}
use Rattle.std.specs.Cmp.Lexicographic.{pointwise}
use Rattle.ix_queue.proofs.queue.meta_queue.MetaQueuePartialEq.eq.Given as goal

abbrev pub invariant-loop-i : goal.invariant-loop-i
invariant-loop-i g l = pointwise g.T.PartialEq.eq (drop l.i l.self.items) (drop l.i l.other.items) ≡ pointwise g.T.PartialEq.eq l.self.items l.other.items
