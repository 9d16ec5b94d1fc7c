use Rattle.ix_run.proofs.Laws.{lines_of-text_of_lines, lines_of-text_of_lines_append, IsWhole-lines_of}
use Rattle.ix_run.proofs.run.laws.line_law.Goals as goal

pub returns-clause-lines : goal.returns-clause-lines
returns-clause-lines c = lines_of-text_of_lines

pub returns-clause-last_line : goal.returns-clause-last_line
returns-clause-last_line c = lines_of-text_of_lines_append

pub returns-clause-input : goal.returns-clause-input
returns-clause-input c = IsWhole-lines_of
