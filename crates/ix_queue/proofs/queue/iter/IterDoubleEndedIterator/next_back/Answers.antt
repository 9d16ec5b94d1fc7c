use Rattle.std.proofs.Common.{sym, ◌∙◌}
use Rattle.ix_queue.proofs.Ranges.{slice_range-last}
use Rattle.ix_queue.proofs.queue.iter.IterDoubleEndedIterator.next_back.Goals as goal

pub returns-clause-steps : goal.returns-clause-steps
returns-clause-steps g c =
    sym c.self.view_is ∙ slice_range-last _ _ _ _ c.self.invariant c.if-self.false c.item_at.ensures.value
