-- The view that contracts have of an iterator that drains a map.
use Rattle.std.specs.Prelude.{List, drop, map}
use Rattle.ix_slottable.specs.SlotTableState.{SlotTableState, entries_from}
use Rattle.ix_slottable.specs.SlotTableSteps.{slot_table_clear}
use Rattle.ix_flatmap.specs.MapState.{map_item}
use Rattle.ix_flatmap.specs.declared.map.pair.Pair.{Pair}
use Rattle.std.specs.Borrow.{GName}
use Rattle.ix_flatmap.specs.declared.map.drain.Drain.{Drain}

module _ {K V M X I L : Type 0} where
  -- the items that are still to come
  abbrev pub drain_items : {s e i l t k p : _} → Drain K V M X I L s e i l t k p → List (K × V)
  drain_items drain = map map_item (entries_from drain.place (drop drain.place drain.map.now.values))

  -- the map once the iterator is dropped: each key that is left is removed
  abbrev pub drain_left : {s e i l t k p : _} → Drain K V M X I L s e i l t k p → SlotTableState (Pair K V)
  drain_left drain = slot_table_clear drain.map.now

  -- the reference to the map
  abbrev pub drain_lender : {s e i l t k p : _} → Drain K V M X I L s e i l t k p → GName
  drain_lender drain = drain.map.ghost_name
