use Rattle.std.proofs.Common.{◌≡◌, ◌≤◌, ◌*◌, ◌+◌, ◌++◌, length, take, option_map, option_copied}
use Rattle.ix_run.specs.Words.{numbers_in}
use Rattle.ix_run.specs.inner.LineRest.{words_after, len_after}
use Rattle.ix_run.proofs.run.grammar.words.many_numbers.Given as goal

abbrev pub invariant-loop-left : goal.invariant-loop-left
invariant-loop-left l = record {
  room : len_after (option_copied l.left) + 2 * l.count ≤ 2 * length l.buffer;
  value : numbers_in (words_after (option_copied l.fn.rest))
      ≡ option_map (λ ns. take l.count l.buffer ++ ns) (numbers_in (words_after (option_copied l.left)));
}

abbrev pub decreases-loop-left : goal.decreases-loop-left
decreases-loop-left l = len_after (option_copied l.left)
