use Rattle.std.proofs.Common.{◌≡◌, length}
use Rattle.std.specs.List.{fold, range_with_len}
use Rattle.ix_slotmap.specs.SlotMapSteps.{slot_map_remove_at}
use Rattle.ix_slotmap.proofs.slotmap.retain.MetaSlotMap+T+MaybeMoved+T+M.clear.Given as goal

-- the keys of the places so far are removed
abbrev pub invariant-loop-place : goal.invariant-loop-place
invariant-loop-place g l = record {
  map : l.self ≡ fold slot_map_remove_at l.fn.self (range_with_len 0 l.place);
  capacity : length l.self.slots.values ≡ length l.fn.self.slots.values;
}
