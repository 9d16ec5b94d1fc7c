use Rattle.std.proofs.Common.{◌≡◌, ℕ, ◌<◌, length, None}
use Rattle.std.specs.List.{fold, range_with_len}
use Rattle.ix_slottable.specs.SlotTableState.{value_at}
use Rattle.ix_slottable.specs.SlotTableSteps.{slot_table_remove}
use Rattle.ix_slottable.proofs.slottable.meta_slot_table.MetaSlotTable.clear.Given as goal

-- the keys so far are removed
abbrev pub invariant-loop-key : goal.invariant-loop-key
invariant-loop-key g l = record {
  map : l.self ≡ fold slot_table_remove l.fn.self (range_with_len 0 l.key);
  capacity : length l.self.values ≡ length l.fn.self.values;
  removed : (key : ℕ) → key < l.key → value_at l.self key ≡ None;
}
