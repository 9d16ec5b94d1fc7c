use Rattle.std.proofs.Common.{sym, ◌∙◌}
use Rattle.ix_queue.proofs.Rings.{IsHeldAt-back, Shows-vec_pop, place_at-back, room-taken}
use Rattle.ix_queue.proofs.queue.meta_queue.MetaQueue.pop_back.Goals as goal

pub take-item-requires : goal.take-item-requires
take-item-requires g c =
    IsHeldAt-back _ _ _ _ _ _ (record { sound = c.self.invariant; is = c.self.view_is }) c.if-len-eq0.false c.len-capacity.ensures.value c.place_after-place.ensures

pub invariant_of-self : goal.invariant_of-self
invariant_of-self g c =
    (Shows-vec_pop _ _ _ _ _ _ (record { sound = c.self.invariant; is = c.self.view_is }) c.if-len-eq0.false c.len-capacity.ensures.value c.place_after-place.ensures _ c.take-item.ensures.places).sound

pub returns-clause-value : goal.returns-clause-value
returns-clause-value g c =
    sym c.take-item.ensures.value ∙ place_at-back _ _ _ _ _ _ (record { sound = c.self.invariant; is = c.self.view_is }) c.if-len-eq0.false c.len-capacity.ensures.value c.place_after-place.ensures

pub returns-clause-queue : goal.returns-clause-queue
returns-clause-queue g c =
    (Shows-vec_pop _ _ _ _ _ _ (record { sound = c.self.invariant; is = c.self.view_is }) c.if-len-eq0.false c.len-capacity.ensures.value c.place_after-place.ensures _ c.take-item.ensures.places).is

pub returns-clause-room : goal.returns-clause-room
returns-clause-room g c _ = room-taken _ _ _ _ _ _ c.self.invariant (invariant_of-self g c) c.if-len-eq0.false c.take-item.ensures.places
