use Rattle.ix_slottable.proofs.SlotTables.{IsWellFormed-shown}
use Rattle.ix_slottable.proofs.slottable.meta_slot_table.MetaSlotTable.len.Goals as goal

pub returns-clause-formed : goal.returns-clause-formed
returns-clause-formed g c = IsWellFormed-shown _ _ _ _ _ (record { sound = c.self.invariant; is = c.self.view_is })
