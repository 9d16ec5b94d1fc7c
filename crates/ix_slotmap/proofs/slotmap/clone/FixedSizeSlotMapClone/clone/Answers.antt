use Rattle.std.proofs.Common.{sym, subst}
use Rattle.ix_slottable.specs.SlotTableCopies.{IsCloneAt, SlotTableIsClone}
use Rattle.ix_slotmap.specs.Generations.{SlotMapState}
use Rattle.ix_slotmap.proofs.SlotMapCopies.{HasWords-clone}
use Rattle.ix_slotmap.proofs.slotmap.clone.FixedSizeSlotMapClone.clone.Goals as goal

pub invariant_of-result : goal.invariant_of-result
invariant_of-result g c =
    HasWords-clone g.T.Clone.is_clone c.self.inside.slots c.clone_contents.new.slots c.self.inside.words c.copy_of-words.result c.self.inside.retired
    (subst (λ (s : SlotMapState g.row.T.Denot). SlotTableIsClone (IsCloneAt g.T.Clone.is_clone) s.slots c.clone_contents.new.slots) (sym c.self.view_is) c.in_ok-clone_contents.ensures.clones)
    c.copy_of-words.ensures c.self.invariant
