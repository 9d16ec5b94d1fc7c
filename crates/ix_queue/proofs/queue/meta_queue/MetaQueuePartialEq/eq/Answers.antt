use Rattle.std.proofs.Common.{sym}
use Rattle.std.proofs.lemmas.Bool.{not-true, not-false}
use Rattle.ix_queue.proofs.Pairs.{pointwise-next, pointwise-false}
use Rattle.ix_queue.proofs.queue.meta_queue.MetaQueuePartialEq.eq.Goals as goal

pub returns-then-ne : goal.returns-then-ne
returns-then-ne g c =
    pointwise-false g.T.PartialEq.eq _ _ c.loop-i.i _ _ c.item_at.ensures.value c.item_at-in-loop-i.ensures.value (not-true _ (sym c.if-ne.ensures)) c.loop-i.invariant

pub loop-i-preserved : goal.loop-i-preserved
loop-i-preserved g c =
    pointwise-next g.T.PartialEq.eq _ _ c.loop-i.i _ _ c.item_at.ensures.value c.item_at-in-loop-i.ensures.value (not-false _ (sym c.if-ne.ensures)) c.loop-i.invariant
