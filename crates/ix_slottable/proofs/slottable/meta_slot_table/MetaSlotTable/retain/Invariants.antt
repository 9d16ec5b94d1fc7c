use Rattle.ix_slottable.specs.SlotTableSteps.{slot_table_set, slot_table_remove}
use Rattle.ix_slottable.specs.SlotTableCalls.{RetainsItem}
use Rattle.ix_slottable.proofs.SlotTableCalls.{Visited}
use Rattle.ix_slottable.proofs.Counts.{Thins}
use Rattle.ix_slottable.proofs.slottable.meta_slot_table.MetaSlotTable.retain.Given as goal

abbrev pub invariant-loop-number : goal.invariant-loop-number
invariant-loop-number g l = record {
  visited : Visited (RetainsItem slot_table_set slot_table_remove (goal.F-step g)) l.fn.f l.fn.self l.number l.f l.self;
  thins : Thins l.fn.self l.self;
}
