use Rattle.std.proofs.Common.{refl, sym, ◌∙◌}
use Rattle.ix_queue.proofs.Rings.{IsHeldAt-item, Shows-queue_set, place_at-item}
use Rattle.ix_queue.proofs.queue.meta_queue.MetaQueue.item_at_mut.Goals as goal

pub get_mut-requires : goal.get_mut-requires
get_mut-requires g c =
    IsHeldAt-item _ _ _ _ c.args.index _ _ (record { sound = c.self.invariant; is = c.self.view_is }) c.requires c.len.ensures.value c.place_after-place.ensures

pub invariant_of-self-lent : goal.invariant_of-self-lent
invariant_of-self-lent g c w =
    (Shows-queue_set _ _ _ _ _ c.args.index _ _ w (record { sound = c.self.invariant; is = c.self.view_is }) c.requires c.len.ensures.value c.place_after-place.ensures (g.met.S.Table.places_with_item c.self.inside.table c.place_after-place.result w)).sound

pub returns : goal.returns
returns g c = (
  (
    refl,
    λ w. (Shows-queue_set _ _ _ _ _ c.args.index _ _ w (record { sound = c.self.invariant; is = c.self.view_is }) c.requires c.len.ensures.value c.place_after-place.ensures (g.met.S.Table.places_with_item c.self.inside.table c.place_after-place.result w)).is,
  ),
  record {
    writes_back = tt;
    value = sym (place_at-item _ _ _ _ c.args.index _ _ (record { sound = c.self.invariant; is = c.self.view_is }) c.requires c.len.ensures.value c.place_after-place.ensures) ∙ c.get_mut.ensures.value;
  },
)
