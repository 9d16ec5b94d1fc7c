use Rattle.std.proofs.Common.{◌⊎◌, IsSome}
use Rattle.ix_slotmap.specs.Generations.{SlotKey, slot_map_value, IsDead}
use Rattle.ix_slotmap.specs.SlotMapSteps.{slot_map_set, slot_map_remove}
use Rattle.ix_slottable.specs.SlotTableCalls.{RetainsItem}
use Rattle.ix_slotmap.proofs.SlotMapCounts.{ThinsMap}
use Rattle.ix_slotmap.proofs.SlotMapCalls.{VisitedPlaces}
use Rattle.ix_slotmap.proofs.slotmap.retain.MetaSlotMap+T+MaybeMoved+T+M.retain.Given as goal

abbrev pub invariant-loop-index : goal.invariant-loop-index
invariant-loop-index g l = record {
  visited : VisitedPlaces (RetainsItem slot_map_set slot_map_remove (goal.F-step g)) l.fn.f l.fn.self l.index l.f l.self;
  removed : (key : SlotKey) → IsSome (slot_map_value l.fn.self key) → IsSome (slot_map_value l.self key) ⊎ IsDead l.self key;
  dead : (key : SlotKey) → IsDead l.fn.self key → IsDead l.self key;
  thins : ThinsMap l.fn.self l.self;
}
