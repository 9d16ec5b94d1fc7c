use Rattle.std.proofs.Common.{◌≡◌, ◌≤◌, ◌*◌, ◌+◌, ◌++◌, length, take, option_map, option_and_then, option_copied}
use Rattle.ix_run.specs.Words.{numbers_in, many_bytes}
use Rattle.ix_run.specs.inner.LineRest.{words_after, len_after}
use Rattle.ix_run.proofs.run.grammar.words.bytes_of_words.Given as goal

abbrev pub invariant-loop-left : goal.invariant-loop-left
invariant-loop-left l = record {
  room : len_after (option_copied l.left) + 2 * l.count ≤ 2 * length l.buffer;
  value : option_and_then (many_bytes (λ bs. bs)) (numbers_in (words_after (option_copied l.fn.rest)))
      ≡ option_map (λ bs. take l.count l.buffer ++ bs) (option_and_then (many_bytes (λ bs. bs)) (numbers_in (words_after (option_copied l.left))));
}

abbrev pub decreases-loop-left : goal.decreases-loop-left
decreases-loop-left l = len_after (option_copied l.left)
