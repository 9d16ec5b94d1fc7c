use Rattle.ix_queue.proofs.Rings.{IsHeldAt-front, len_not_zero, Shows-queue_set_front}
use Rattle.ix_queue.proofs.queue.meta_queue.MetaQueue.front_mut.Goals as goal

pub get_mut-requires : goal.get_mut-requires
get_mut-requires g c =
    IsHeldAt-front _ _ _ _ (record { sound = c.self.invariant; is = c.self.view_is }) (len_not_zero _ _ _ _ (record { sound = c.self.invariant; is = c.self.view_is }) c.requires)

pub invariant_of-self-lent : goal.invariant_of-self-lent
invariant_of-self-lent g c w =
    (Shows-queue_set_front _ _ _ _ _ w (record { sound = c.self.invariant; is = c.self.view_is }) c.requires (g.met.S.Table.places_with_item c.self.inside.table c.self.inside.start w)).sound
