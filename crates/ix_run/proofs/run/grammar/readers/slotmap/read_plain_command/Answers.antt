use Rattle.std.proofs.Common.{Some, ◌∙◌, sym, ap, option_map}
use Rattle.ix_run.specs.inner.NameTables.{constant_rows, slot_map_named}
use Rattle.ix_run.proofs.NameTables.{completed, command_completed}
use Rattle.ix_run.specs.declared.run.grammar.readers.slotmap.TheConstants.{PLAIN_NAMES}
use Rattle.ix_run.proofs.run.grammar.readers.slotmap.read_plain_command.Goals as goal

pub returns-in_err-name : goal.returns-in_err-name
returns-in_err-name c = c.from_residual.ensures ∙ (ap (option_map (completed slot_map_named)) c.in_err-name.ensures ∙ sym (command_completed slot_map_named (constant_rows PLAIN_NAMES) c.args.line.now))

pub returns : goal.returns
returns c = ap Some c.plain_named.ensures ∙ (ap (option_map (completed slot_map_named)) c.in_ok-name.ensures ∙ sym (command_completed slot_map_named (constant_rows PLAIN_NAMES) c.args.line.now))
