use Rattle.std.proofs.Common.{arith}
use Rattle.ix_queue.proofs.Rings.{IsHeldAt-front, Shows-queue_overflow}
use Rattle.ix_queue.proofs.queue.meta_queue.MetaQueue.push_with_overflow.Goals as goal

pub take-front-requires : goal.take-front-requires
take-front-requires g c =
    IsHeldAt-front _ _ _ _ (record { sound = c.self.invariant; is = c.self.view_is }) (omega arith)

pub invariant_of-self : goal.invariant_of-self
invariant_of-self g c =
    (Shows-queue_overflow _ _ _ _ _ _ _ _ _ (record { sound = c.self.invariant; is = c.self.view_is }) c.if-self-capacity.false c.if-capacity-eq0.false c.len-capacity.ensures.value c.take-front.ensures.places c.put.ensures c.next_after-self-inside.ensures).sound

pub returns-clause-queue : goal.returns-clause-queue
returns-clause-queue g c =
    (Shows-queue_overflow _ _ _ _ _ _ _ _ _ (record { sound = c.self.invariant; is = c.self.view_is }) c.if-self-capacity.false c.if-capacity-eq0.false c.len-capacity.ensures.value c.take-front.ensures.places c.put.ensures c.next_after-self-inside.ensures).is

pub returns-clause-within : goal.returns-clause-within
returns-clause-within g c = (invariant_of-self g c).ring.fits
