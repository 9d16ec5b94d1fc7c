use Rattle.std.proofs.Common.{◌≡◌, ◌∷◌, take}
use Rattle.ix_atomic.specs.inner.DataWords.{words_of}
use Rattle.ix_atomic.proofs.sequenced.data_words.new_words.Given as goal

abbrev pub invariant-loop-i : goal.invariant-loop-i
invariant-loop-i g l = l.words.items ≡ 0 ∷ take l.i (words_of l.bytes)
