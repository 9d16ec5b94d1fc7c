use Rattle.ix_slottable.specs.SlotTableCopies.{IsCloneAt}
use Rattle.ix_slottable.proofs.SlotTableCopies.{CopiesBelow}
use Rattle.ix_slotmap.proofs.slotmap.clone.MetaSlotMap+T+MaybeMoved+T+M.put_contents.Given as goal

abbrev pub invariant-loop-index : goal.invariant-loop-index
invariant-loop-index g l = CopiesBelow (IsCloneAt g.T.Clone.is_clone) l.self.slots l.index l.slots
