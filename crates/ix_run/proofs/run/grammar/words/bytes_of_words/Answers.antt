use Rattle.std.proofs.Common.{ℕ, ◌<◌, sym, length, option_and_then, option_copied, length-set, arith}
use Rattle.ix_run.specs.Words.{numbers_in, many_bytes}
use Rattle.ix_run.specs.inner.LineRest.{words_after}
use Rattle.ix_run.proofs.Words.{buffer_after, bytes_of_word, byte_of-length}
use Rattle.ix_run.proofs.run.grammar.words.bytes_of_words.Goals as goal

pub loop-left-preserved : goal.loop-left-preserved
loop-left-preserved c =
    let n = c.in_ok-byte.byte in
    let room = rw c.in-Some.is at c.loop-left.invariant.room in
    let value = rw (c.in-Some.is, c.split_word.ensures.words, bytes_of_word, sym c.in_ok-byte.ensures) at c.loop-left.invariant.value in
    let some = byte_of-length c.split_word.result.0.now n (sym c.in_ok-byte.ensures) in
    let fits : c.loop-left.count < length c.loop-left.buffer = omega (arith, room) in
    record {
      room = omega (arith, room, some, c.split_word.ensures.len, length-set {A = ℕ});
      value = buffer_after c.loop-left.buffer c.loop-left.count n _ (option_and_then (many_bytes (λ bs. bs)) (numbers_in (words_after (option_copied c.split_word.result.1)))) fits value;
    }
