use Rattle.std.proofs.Common.{◌≡◌, ◌<◌, sym, length, get_or, arith, rules}
use Rattle.ix_run.proofs.Numbers.{IsNumeral-decimal, number_of-none, number_of-SomeIff}
use Rattle.ix_run.proofs.run.grammar.reading.number_in.Goals.{else-word-eq48-via-then-word-eq48+else-word-gt1, else-word-eq48-via-else-word-eq48}
use Rattle.ix_run.proofs.run.grammar.reading.number_in.Goals as goal

pub returns-then-is_empty : goal.returns-then-is_empty
returns-then-is_empty c =
    let word = c.args.word.now in
    let none : length word ≡ 0 = search rules in
    sym (number_of-none word (λ n h e. let some = (IsNumeral-decimal word n h e).some in omega (arith, some, none)))

pub returns-then-word-gt1 : goal.returns-then-word-gt1
returns-then-word-gt1 c =
    let word = c.args.word.now in
    sym (number_of-none word (λ n h e. let one = (IsNumeral-decimal word n h e).front c.if-word-eq48.true in omega (arith, one, c.if-word-gt1.true)))

pub returns : goal.returns
returns c =
    let word = c.args.word.now in
    let some : 0 < length word = search rules in
    let front : get_or word 0 0 ≡ 48 → length word ≡ 1 = elim c.else-word-eq48.branch [
      | else-word-eq48-via-then-word-eq48+else-word-gt1 w ↦ λ e. omega (arith, some, w.if-word-gt1.false)
      | else-word-eq48-via-else-word-eq48 w ↦ λ e. absurd (w.if-word-eq48.false e)
    ] in
    number_of-SomeIff word c.value_of_digits-value.result c.value_of_digits-value.ensures some front
