-- `SlotTableRun` by its old names.
pub use Rattle.ix_commands.specs.SlotTableRun.{slot_table_from as table_from, slot_table_reply as table_reply, slot_table_after as table_after}
