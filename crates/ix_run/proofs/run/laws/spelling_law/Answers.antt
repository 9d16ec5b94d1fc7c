use Rattle.std.proofs.Common.{rules}
use Rattle.std.specs.List.{IsDistinct}
use Rattle.ix_run.proofs.Spelling.{command_of-Spells, command_of-words_text, key_command_of-Spells, key_command_of-key_words_text, command_of-either}
use Rattle.ix_run.proofs.run.laws.spelling_law.Goals as goal

pub returns-clause-text : goal.returns-clause-text
returns-clause-text g c = command_of-Spells

pub returns-clause-each : goal.returns-clause-each
returns-clause-each g c = command_of-words_text

pub returns-clause-names : goal.returns-clause-names
unfolding IsDistinct
returns-clause-names g c = search rules

pub returns-clause-key_text : goal.returns-clause-key_text
returns-clause-key_text g c = key_command_of-Spells

pub returns-clause-key_each : goal.returns-clause-key_each
returns-clause-key_each g c = key_command_of-key_words_text

pub returns-clause-either : goal.returns-clause-either
returns-clause-either g c = command_of-either

pub returns-clause-slot_map_names : goal.returns-clause-slot_map_names
unfolding IsDistinct
returns-clause-slot_map_names g c = search rules
