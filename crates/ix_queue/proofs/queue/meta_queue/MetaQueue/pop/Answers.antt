use Rattle.ix_queue.proofs.Rings.{IsHeldAt-front, Shows-queue_pop, room-taken}
use Rattle.ix_queue.proofs.queue.meta_queue.MetaQueue.pop.Goals as goal

pub take-item-requires : goal.take-item-requires
take-item-requires g c = IsHeldAt-front _ _ _ _ (record { sound = c.self.invariant; is = c.self.view_is }) c.if-len-eq0.false

pub invariant_of-self : goal.invariant_of-self
invariant_of-self g c =
    (Shows-queue_pop _ _ _ _ _ _ _ (record { sound = c.self.invariant; is = c.self.view_is }) c.if-len-eq0.false c.take-item.ensures.places c.len-capacity.ensures.value c.next_after-self-inside.ensures).sound

pub returns-clause-queue : goal.returns-clause-queue
returns-clause-queue g c =
    (Shows-queue_pop _ _ _ _ _ _ _ (record { sound = c.self.invariant; is = c.self.view_is }) c.if-len-eq0.false c.take-item.ensures.places c.len-capacity.ensures.value c.next_after-self-inside.ensures).is

pub returns-clause-room : goal.returns-clause-room
returns-clause-room g c _ = room-taken _ _ _ _ _ _ c.self.invariant (invariant_of-self g c) c.if-len-eq0.false c.take-item.ensures.places
