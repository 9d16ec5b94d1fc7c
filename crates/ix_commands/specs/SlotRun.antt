-- `SlotMapRun` by its old names.
pub use Rattle.ix_commands.specs.SlotMapRun.{slot_map_next as map_next, is_free_place, is_replaceable, slot_map_insert_at as map_insert_at, slot_map_insert_at_key as map_insert_at_key, slot_map_from as slot_from, slot_map_reply as slot_reply, slot_map_after as slot_after, DeadStaysDead}
