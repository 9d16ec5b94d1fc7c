use Rattle.ix_run.proofs.Numbers.{without_leading_plus-same, value_of_numeral, no_numeral}
use Rattle.ix_run.proofs.run.grammar.reading.value_of_digits.Goals as goal

pub returns-in-Ok : goal.returns-in-Ok
returns-in-Ok c =
    let word = c.args.word.now in
    let read = rw (without_leading_plus-same word c.if-word-eq43.false) at c.in-Ok.ensures in
    value_of_numeral word c.in-Ok.value read.0 read.1

pub returns-in-Err : goal.returns-in-Err
returns-in-Err c =
    let word = c.args.word.now in
    let none = rw (without_leading_plus-same word c.if-word-eq43.false) at c.in-Err.ensures in
    no_numeral word c.requires none
