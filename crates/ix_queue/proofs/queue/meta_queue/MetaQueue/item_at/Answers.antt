use Rattle.std.proofs.Common.{sym, ◌∙◌}
use Rattle.ix_queue.proofs.Rings.{IsHeldAt-item, place_at-item}
use Rattle.ix_queue.proofs.queue.meta_queue.MetaQueue.item_at.Goals as goal

pub get-requires : goal.get-requires
get-requires g c =
    IsHeldAt-item _ _ _ _ c.args.index _ _ (record { sound = c.self.invariant; is = c.self.view_is }) c.requires c.len.ensures.value c.place_after.ensures

pub returns-clause-value : goal.returns-clause-value
returns-clause-value g c =
    sym (place_at-item _ _ _ _ c.args.index _ _ (record { sound = c.self.invariant; is = c.self.view_is }) c.requires c.len.ensures.value c.place_after.ensures) ∙ c.get.ensures
