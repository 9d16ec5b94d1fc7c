use Rattle.std.proofs.Common.{◌≡◌, ◌-◌, length, drop}
use Rattle.ix_slottable.specs.SlotTableState.{entries_from}
use Rattle.ix_slotmap.specs.Generations.{held_entries}
use Rattle.ix_slotmap.proofs.slotmap.places.MetaSlotMap+T+MaybeMoved+T+M.held_from.Given as goal

-- no value was passed
abbrev pub invariant-loop-touches : goal.invariant-loop-touches
invariant-loop-touches g l =
    held_entries l.self (entries_from l.index (drop l.index l.self.slots.values)) ≡ held_entries l.self (entries_from l.start (drop l.start l.self.slots.values))

abbrev pub decreases-loop-touches : goal.decreases-loop-touches
decreases-loop-touches g l = length l.self.slots.values - l.index
