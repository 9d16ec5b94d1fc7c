use Rattle.std.proofs.Common.{◌≡◌, ◌<◌, length, ℕ}
use Rattle.ix_slotmap.specs.inner.Words.{word_at}
use Rattle.ix_slotmap.proofs.slotmap.word_table.WordTable.copy_of.Given as goal

-- the words so far are copied
abbrev pub invariant-loop-place : goal.invariant-loop-place
invariant-loop-place g l = record {
  len : length (g.G.Array.items l.array) ≡ length l.other;
  copied : (place : ℕ) → place < l.place → word_at (g.G.Array.items l.array) place ≡ word_at l.other place;
}
