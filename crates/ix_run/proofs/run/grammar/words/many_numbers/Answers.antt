use Rattle.std.proofs.Common.{ℕ, ◌<◌, sym, length, option_copied, length-set, arith}
use Rattle.ix_run.specs.Words.{numbers_in}
use Rattle.ix_run.specs.inner.LineRest.{words_after}
use Rattle.ix_run.proofs.Words.{buffer_after, number_of-length}
use Rattle.ix_run.proofs.run.grammar.words.many_numbers.Goals as goal

pub loop-left-preserved : goal.loop-left-preserved
loop-left-preserved c =
    let n = c.in_ok-number.number in
    let room = rw c.in-Some.is at c.loop-left.invariant.room in
    let value = rw (c.in-Some.is, c.split_word.ensures.words, sym c.in_ok-number.ensures) at c.loop-left.invariant.value in
    let some = number_of-length c.split_word.result.0.now n (sym c.in_ok-number.ensures) in
    let fits : c.loop-left.count < length c.loop-left.buffer = omega (arith, room) in
    record {
      room = omega (arith, room, some, c.split_word.ensures.len, length-set {A = ℕ});
      value = buffer_after c.loop-left.buffer c.loop-left.count n _ (numbers_in (words_after (option_copied c.split_word.result.1))) fits value;
    }
