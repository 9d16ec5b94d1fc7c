use Rattle.std.proofs.Common.{ℕ, ◌++◌, List, Option, Some, ◌∙◌, refl, sym, ap, option_map, option_copied}
use Rattle.ix_run.specs.Forms.{string_plain}
use Rattle.ix_run.specs.Words.{numbers_in}
use Rattle.ix_run.specs.inner.NameTables.{constant_rows, first_word, bytes_taken, string_named}
use Rattle.ix_run.specs.inner.LineRest.{words_after}
use Rattle.ix_run.specs.declared.run.grammar.name_table.Takes.{Takes}
use Rattle.ix_run.specs.declared.run.grammar.readers.string.StringName.{StringName}
use Rattle.ix_run.specs.declared.run.grammar.readers.string.TheConstants.{NAMES, OTHER_NAMES}
use Rattle.ix_commands.specs.declared.command.StringCommand.{StringCommand}
use Rattle.ix_run.proofs.Words.{other_words, first_word_split}
use Rattle.ix_run.proofs.NameTables.{spelled, bytes_made, made_of, line_of_forms}
use Rattle.ix_run.proofs.run.grammar.readers.string.read_string_command.Goals as goal

abbrev make : Takes × StringName → List ℕ → Option StringCommand
make v = bytes_taken v.0 (string_named v.1)

pub returns-in_err-takes : goal.returns-in_err-takes
returns-in_err-takes c =
    let words = other_words c.args.line.now in
    let line = line_of_forms make (constant_rows NAMES ++ constant_rows OTHER_NAMES) c.args.line.now (first_word c.args.line.now) words (first_word_split c.args.line.now) refl in
    record { value = ap (option_map string_plain) c.from_residual.ensures ∙ (ap (made_of make (numbers_in words)) (sym c.in_err-takes.ensures) ∙ sym line) }

pub returns-in_err-first : goal.returns-in_err-first
returns-in_err-first c =
    let words = words_after (option_copied c.in_ok-takes.rest) in
    let line = line_of_forms make (constant_rows NAMES ++ constant_rows OTHER_NAMES) c.args.line.now (first_word c.args.line.now) words c.in_ok-takes.ensures.words refl in
    let made = bytes_made c.in_ok-takes.takes (string_named c.in_ok-takes.name) (numbers_in words) in
    let read = ap (option_map (spelled (string_named c.in_ok-takes.name))) c.in_err-first.ensures ∙ sym made in
    record { value = ap (option_map string_plain) c.from_residual-in_err-first.ensures ∙ (read ∙ (ap (made_of make (numbers_in words)) (sym c.in_ok-takes.ensures.found) ∙ sym line)) }

pub returns : goal.returns
returns c =
    let words = words_after (option_copied c.in_ok-takes.rest) in
    let line = line_of_forms make (constant_rows NAMES ++ constant_rows OTHER_NAMES) c.args.line.now (first_word c.args.line.now) words c.in_ok-takes.ensures.words refl in
    let made = bytes_made c.in_ok-takes.takes (string_named c.in_ok-takes.name) (numbers_in words) in
    let read = ap (option_map (spelled (string_named c.in_ok-takes.name))) c.in_ok-first.ensures ∙ sym made in
    record { value = ap Some c.command_named.ensures ∙ (read ∙ (ap (made_of make (numbers_in words)) (sym c.in_ok-takes.ensures.found) ∙ sym line)) }
