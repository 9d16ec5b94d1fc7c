-- The view that contracts have of an iterator that drains a slot table.
use Rattle.std.specs.Prelude.{ℕ, List, drop}
use Rattle.ix_slottable.specs.SlotTableState.{SlotTableState, entries_from}
use Rattle.ix_slottable.specs.SlotTableSteps.{slot_table_clear}
use Rattle.std.specs.Borrow.{GName}
use Rattle.ix_slottable.specs.declared.slottable.drain.Drain.{Drain}

module _ {T M I L : Type 0} where
  -- the items that are still to come
  abbrev pub drain_items : {g h : _} → Drain T M I L g h → List (ℕ × T)
  drain_items drain = entries_from drain.key (drop drain.key drain.map.now.values)

  -- the map once the iterator is dropped: each key that is left is removed
  abbrev pub drain_left : {g h : _} → Drain T M I L g h → SlotTableState T
  drain_left drain = slot_table_clear drain.map.now

  -- the reference to the map
  abbrev pub drain_lender : {g h : _} → Drain T M I L g h → GName
  drain_lender drain = drain.map.ghost_name
