use Rattle.std.proofs.Common.{length, sym, ap, subst, arith}
use Rattle.ix_slottable.specs.SlotTableCopies.{IsCloneAt}
use Rattle.ix_slottable.proofs.SlotTableCopies.{CopiesBelow}
use Rattle.ix_slotmap.specs.Generations.{SlotMapState}
use Rattle.ix_slotmap.proofs.SlotMapCopies.{MatchesWords-copies}
use Rattle.ix_slotmap.proofs.slotmap.clone.MetaSlotMap+T+MaybeMoved+T+M.put_contents.Goals as goal

pub drop_values-requires : goal.drop_values-requires
drop_values-requires g c =
    let below = c.loop-index-test.true in
    let all = c.capacity-index-end.ensures.value in
    let same = ap (λ (s : SlotMapState g.row.T.Denot). length s.slots.values) c.self.view_is in
    MatchesWords-copies g.T.Clone.is_clone c.self.inside.slots c.loop-index.slots c.self.inside.words c.self.inside.retired c.loop-index.index c.self.invariant
    (subst (λ (s : SlotMapState g.row.T.Denot). CopiesBelow (IsCloneAt g.T.Clone.is_clone) s.slots c.loop-index.index c.loop-index.slots) (sym c.self.view_is) c.loop-index.invariant)
    (omega (arith, below, all, same))
