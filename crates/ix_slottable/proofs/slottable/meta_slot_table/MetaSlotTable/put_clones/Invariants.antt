use Rattle.ix_slottable.proofs.SlotTableCopies.{CopiesBelow}
use Rattle.ix_slottable.proofs.slottable.meta_slot_table.MetaSlotTable.put_clones.Given as goal

abbrev pub invariant-loop-number : goal.invariant-loop-number
invariant-loop-number g l = CopiesBelow g.T.Clone.is_clone l.other l.number l.self
