use Rattle.std.proofs.Common.{ℕ, ◌≡◌, ◌≤◌, ◌<◌, ◌-◌, false, length, get_or, nat_eq}
use Rattle.ix_run.proofs.run.grammar.words.word_len.Given as goal

abbrev pub invariant-loop-len : goal.invariant-loop-len
invariant-loop-len l = record {
  within : l.len ≤ length l.bytes;
  before : (k : ℕ) → k < l.len → nat_eq (get_or l.bytes k 0) l.separator ≡ false;
}

abbrev pub decreases-loop-len : goal.decreases-loop-len
decreases-loop-len l = length l.bytes - l.len
