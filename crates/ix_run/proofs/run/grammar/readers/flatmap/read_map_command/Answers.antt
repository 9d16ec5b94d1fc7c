use Rattle.std.proofs.Common.{Some, ◌∙◌, sym, ap, option_map}
use Rattle.ix_run.specs.inner.NameTables.{constant_rows, map_with}
use Rattle.ix_run.proofs.NameTables.{completed, command_completed}
use Rattle.ix_run.specs.declared.run.grammar.readers.flatmap.TheConstants.{COMMANDS}
use Rattle.ix_run.proofs.run.grammar.readers.flatmap.read_map_command.Goals as goal

pub returns-in_err-command : goal.returns-in_err-command
returns-in_err-command c = record {
  value = c.from_residual.ensures ∙ (ap (option_map (completed map_with)) c.in_err-command.ensures ∙ sym (command_completed map_with (constant_rows COMMANDS) c.args.line.now));
}

pub returns : goal.returns
returns c = record {
  value = ap Some c.with_numbers.ensures ∙ (ap (option_map (completed map_with)) c.in_ok-command.ensures ∙ sym (command_completed map_with (constant_rows COMMANDS) c.args.line.now));
}
