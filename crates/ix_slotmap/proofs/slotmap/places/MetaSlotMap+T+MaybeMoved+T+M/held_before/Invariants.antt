use Rattle.std.proofs.Common.{◌≡◌, ◌+◌, ◌<◌, take}
use Rattle.ix_slottable.specs.SlotTableState.{entries_from}
use Rattle.ix_slotmap.specs.Generations.{held_entries}
use Rattle.ix_slotmap.proofs.slotmap.places.MetaSlotMap+T+MaybeMoved+T+M.held_before.Given as goal

-- no value was passed
abbrev pub invariant-loop-touches : goal.invariant-loop-touches
invariant-loop-touches g l =
    (l.place < l.end)
    × (held_entries l.self (entries_from 0 (take (l.place + 1) l.self.slots.values)) ≡ held_entries l.self (entries_from 0 (take l.end l.self.slots.values)))

abbrev pub decreases-loop-touches : goal.decreases-loop-touches
decreases-loop-touches g l = l.place
