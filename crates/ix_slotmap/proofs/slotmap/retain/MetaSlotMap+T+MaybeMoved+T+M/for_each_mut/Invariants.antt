use Rattle.std.proofs.Common.{◌≡◌, ◌↔◌, IsSome}
use Rattle.ix_slotmap.specs.Generations.{SlotKey, slot_map_value, IsDead}
use Rattle.ix_slotmap.specs.SlotMapSteps.{slot_map_set}
use Rattle.ix_slottable.specs.SlotTableCalls.{ChangesItem}
use Rattle.ix_slotmap.proofs.SlotMapCalls.{VisitedPlaces}
use Rattle.ix_slotmap.proofs.slotmap.retain.MetaSlotMap+T+MaybeMoved+T+M.for_each_mut.Given as goal

abbrev pub invariant-loop-index : goal.invariant-loop-index
invariant-loop-index g l = record {
  visited : VisitedPlaces (ChangesItem slot_map_set (goal.F-step g)) l.fn.f l.fn.self l.index l.f l.self;
  keys : (key : SlotKey) → IsSome (slot_map_value l.self key) ↔ IsSome (slot_map_value l.fn.self key);
  free : l.self.slots.free ≡ l.fn.self.slots.free;
  generations : l.self.generations ≡ l.fn.self.generations;
  dead : (key : SlotKey) → IsDead l.fn.self key → IsDead l.self key;
}
