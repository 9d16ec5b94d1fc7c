use Rattle.ix_queue.proofs.Rings.{IsEmptyAt-end, Shows-push}
use Rattle.ix_queue.proofs.queue.meta_queue.MetaQueue.append.Goals as goal

pub put-requires : goal.put-requires
put-requires g c =
    IsEmptyAt-end _ _ _ _ _ _ (record { sound = c.self.invariant; is = c.self.view_is }) c.requires.room c.requires.capacity c.place_after-place.ensures

pub invariant_of-self : goal.invariant_of-self
invariant_of-self g c =
    (Shows-push _ _ _ _ _ _ _ _ (record { sound = c.self.invariant; is = c.self.view_is }) c.requires.room c.requires.capacity c.place_after-place.ensures c.put.ensures).sound

pub returns : goal.returns
returns g c =
    (Shows-push _ _ _ _ _ _ _ _ (record { sound = c.self.invariant; is = c.self.view_is }) c.requires.room c.requires.capacity c.place_after-place.ensures c.put.ensures).is
