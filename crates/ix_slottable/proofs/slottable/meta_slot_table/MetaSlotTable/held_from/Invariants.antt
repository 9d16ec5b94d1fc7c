use Rattle.std.proofs.Common.{◌≡◌, ◌-◌, length, drop}
use Rattle.ix_slottable.specs.SlotTableState.{entries_from}
use Rattle.ix_slottable.proofs.slottable.meta_slot_table.MetaSlotTable.held_from.Given as goal

-- only free keys were passed
abbrev pub invariant-loop-touches : goal.invariant-loop-touches
invariant-loop-touches g l =
    entries_from l.key (drop l.key l.self.values) ≡ entries_from l.start (drop l.start l.self.values)

abbrev pub decreases-loop-touches : goal.decreases-loop-touches
decreases-loop-touches g l = length l.self.values - l.key
