use Rattle.std.proofs.Common.{refl, nat_eq}
use Rattle.ix_tables.specs.Bounded.{bounded_new}
use Rattle.ix_slottable.specs.SlotTableState.{slot_table_new}
use Rattle.ix_slotmap.specs.Generations.{slot_map_new}
use Rattle.ix_commands.specs.SlotMapRun.{slot_map_reply, slot_map_after}
use Rattle.ix_commands.specs.QueueRun.{queue_reply, queue_after}
use Rattle.ix_commands.specs.VectorRun.{vector_reply, vector_after}
use Rattle.ix_commands.specs.SlotTableRun.{slot_table_reply, slot_table_after}
use Rattle.ix_commands.specs.MapRun.{map_reply, map_after}
use Rattle.ix_commands.specs.StringRun.{string_reply, string_after}
use Rattle.ix_run.specs.Forms.{queue_forms, vector_forms, slot_table_forms, slot_map_command_of, map_forms, string_forms}
use Rattle.ix_run.specs.ReplyTexts.{reply_text, slot_map_reply_text}
use Rattle.ix_run.specs.Words.{command_of}
use Rattle.ix_run.specs.Headers.{capacity_of, first_generation}
use Rattle.ix_run.specs.Script.{list_shown, slot_table_shown, slot_map_shown, map_shown, string_shown}
use Rattle.ix_run.specs.declared.run.grammar.header.Container.TheVariants as container
use Rattle.ix_run.proofs.Laws.{IsRunBy-container}
use Rattle.ix_run.proofs.run.laws.script_law.Goals as goal

pub returns-clause-queue : goal.returns-clause-queue
returns-clause-queue c = λ storage. IsRunBy-container (command_of queue_forms) reply_text queue_reply queue_after list_shown container.Queue storage (bounded_new (capacity_of storage)) refl (λ lines. refl)

pub returns-clause-vec : goal.returns-clause-vec
returns-clause-vec c = λ storage. IsRunBy-container (command_of vector_forms) reply_text vector_reply vector_after list_shown container.Vector storage (bounded_new (capacity_of storage)) refl (λ lines. refl)

pub returns-clause-table : goal.returns-clause-table
returns-clause-table c = λ storage. IsRunBy-container (command_of slot_table_forms) reply_text slot_table_reply slot_table_after slot_table_shown container.SlotTable storage (slot_table_new (capacity_of storage)) refl (λ lines. refl)

pub returns-clause-flat : goal.returns-clause-flat
returns-clause-flat c = λ storage. IsRunBy-container (command_of map_forms) reply_text (map_reply nat_eq) (map_after nat_eq) map_shown container.FlatMap storage (slot_table_new (capacity_of storage)) refl (λ lines. refl)

pub returns-clause-text : goal.returns-clause-text
returns-clause-text c = λ storage. IsRunBy-container (command_of string_forms) reply_text string_reply string_after string_shown container.String storage (bounded_new (capacity_of storage)) refl (λ lines. refl)

pub returns-clause-slot : goal.returns-clause-slot
returns-clause-slot c = λ storage start.
    IsRunBy-container slot_map_command_of slot_map_reply_text slot_map_reply slot_map_after slot_map_shown (container.SlotMap start) storage (slot_map_new (capacity_of storage) (first_generation start)) refl (λ lines. refl)
