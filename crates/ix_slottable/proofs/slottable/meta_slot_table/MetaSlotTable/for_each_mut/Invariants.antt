use Rattle.std.proofs.Common.{◌≡◌, ◌↔◌, ℕ}
use Rattle.ix_slottable.specs.SlotTableState.{IsHeld}
use Rattle.ix_slottable.specs.SlotTableSteps.{slot_table_set}
use Rattle.ix_slottable.specs.SlotTableCalls.{ChangesItem}
use Rattle.ix_slottable.proofs.SlotTableCalls.{Visited}
use Rattle.ix_slottable.proofs.slottable.meta_slot_table.MetaSlotTable.for_each_mut.Given as goal

abbrev pub invariant-loop-number : goal.invariant-loop-number
invariant-loop-number g l = record {
  visited : Visited (ChangesItem slot_table_set (goal.F-step g)) l.fn.f l.fn.self l.number l.f l.self;
  keys : (key : ℕ) → IsHeld l.self key ↔ IsHeld l.fn.self key;
  free : l.self.free ≡ l.fn.self.free;
}
