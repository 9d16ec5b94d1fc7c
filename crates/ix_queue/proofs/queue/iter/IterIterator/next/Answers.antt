use Rattle.std.proofs.Common.{sym, ◌∙◌}
use Rattle.ix_queue.proofs.Ranges.{slice_range-first}
use Rattle.ix_queue.proofs.queue.iter.IterIterator.next.Goals as goal

pub returns-clause-steps : goal.returns-clause-steps
returns-clause-steps g c =
    sym c.self.view_is ∙ slice_range-first _ _ _ _ c.self.invariant c.if-index-self.false c.item_at.ensures.value
