use Rattle.std.proofs.Common.{ℕ, ◌∙◌, sym, ap, option_map, option_copied}
use Rattle.ix_run.specs.Words.{numbers_in}
use Rattle.ix_run.specs.inner.NameTables.{rows, first_word}
use Rattle.ix_run.specs.inner.LineRest.{words_after}
use Rattle.ix_run.proofs.NameTables.{value_and_numbers, line_by_table}
use Rattle.ix_run.proofs.Words.{other_words, first_word_split}
use Rattle.ix_run.proofs.run.grammar.name_table.read_by_table.Goals as goal

pub returns-in_err-takes : goal.returns-in_err-takes
returns-in_err-takes g c =
    let name = c.args.line.now in
    let line = line_by_table (rows c.args.table.now) name (first_word name) (other_words name) (first_word_split name) c.requires.names in
    c.from_residual.ensures ∙ (ap (value_and_numbers (numbers_in (other_words name))) (sym c.in_err-takes.ensures) ∙ sym line)

pub returns-in_err-numbers : goal.returns-in_err-numbers
returns-in_err-numbers g c =
    let words = words_after (option_copied c.in_ok-takes.rest) in
    let line = line_by_table (rows c.args.table.now) c.args.line.now (first_word c.args.line.now) words c.in_ok-takes.ensures.words c.requires.names in
    let read = ap (option_map (λ (p : ℕ × ℕ). (c.in_ok-takes.command, p))) c.in_err-numbers.ensures in
    c.from_residual-in_err-numbers.ensures ∙ (read ∙ (ap (value_and_numbers (numbers_in words)) (sym c.in_ok-takes.ensures.found) ∙ sym line))

pub returns : goal.returns
returns g c =
    let words = words_after (option_copied c.in_ok-takes.rest) in
    let line = line_by_table (rows c.args.table.now) c.args.line.now (first_word c.args.line.now) words c.in_ok-takes.ensures.words c.requires.names in
    let read = ap (option_map (λ (p : ℕ × ℕ). (c.in_ok-takes.command, p))) c.in_ok-numbers.ensures in
    read ∙ (ap (value_and_numbers (numbers_in words)) (sym c.in_ok-takes.ensures.found) ∙ sym line)
