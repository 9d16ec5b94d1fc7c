use Rattle.std.proofs.Common.{◌≡◌, ◌+◌, ◌<◌, take}
use Rattle.ix_slottable.specs.SlotTableState.{entries_from}
use Rattle.ix_slottable.proofs.slottable.meta_slot_table.MetaSlotTable.held_before.Given as goal

-- only free keys were passed
abbrev pub invariant-loop-touches : goal.invariant-loop-touches
invariant-loop-touches g l =
    (l.key < l.end) × (entries_from 0 (take (l.key + 1) l.self.values) ≡ entries_from 0 (take l.end l.self.values))

abbrev pub decreases-loop-touches : goal.decreases-loop-touches
decreases-loop-touches g l = l.key
