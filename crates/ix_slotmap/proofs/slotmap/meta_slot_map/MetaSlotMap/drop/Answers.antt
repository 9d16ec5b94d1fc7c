use Rattle.std.proofs.Common.{sym, subst}
use Rattle.ix_slotmap.specs.inner.Words.{MatchesWords}
use Rattle.ix_slotmap.proofs.WordedValues.{MatchesWords-all}
use Rattle.ix_slotmap.proofs.slotmap.meta_slot_map.MetaSlotMap.drop.Goals as goal

pub drop_values-requires : goal.drop_values-requires
drop_values-requires g c = subst (MatchesWords g.C.Content.is_retired c.self.inside.slots c.self.inside.words) (sym c.capacity-capacity.ensures.value) (MatchesWords-all _ _ _ _ c.self.invariant)
