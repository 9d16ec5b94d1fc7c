-- The view that contracts have of an iterator that drains a slot map.
use Rattle.std.specs.Prelude.{List, drop}
use Rattle.std.specs.Borrow.{GName}
use Rattle.ix_slottable.specs.SlotTableState.{entries_from}
use Rattle.ix_slotmap.specs.Generations.{SlotKey, SlotMapState, held_entries}
use Rattle.ix_slotmap.specs.SlotMapSteps.{slot_map_clear}
use Rattle.ix_slotmap.specs.declared.slotmap.drain.Drain.{Drain}

module _ {T M Sl W I L : Type 0} where
  -- the items that are still to come
  abbrev pub drain_items : {s l g : _} → Drain T M Sl W I L s l g → List (SlotKey × T)
  drain_items drain = held_entries drain.map.now (entries_from drain.index (drop drain.index drain.map.now.slots.values))

  -- the map once the iterator is dropped: each key that is left is removed
  abbrev pub drain_left : {s l g : _} → Drain T M Sl W I L s l g → SlotMapState T
  drain_left drain = slot_map_clear drain.map.now

  -- the reference to the map
  abbrev pub drain_lender : {s l g : _} → Drain T M Sl W I L s l g → GName
  drain_lender drain = drain.map.ghost_name
