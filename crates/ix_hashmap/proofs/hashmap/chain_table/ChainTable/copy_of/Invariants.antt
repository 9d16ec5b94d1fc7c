use Rattle.std.proofs.Common.{◌≡◌, ℕ, ◌<◌, length, get_or}
use Rattle.ix_hashmap.specs.inner.HashChains.{no_link}
use Rattle.ix_hashmap.proofs.hashmap.chain_table.ChainTable.copy_of.Given as goal

-- the links so far are copied
abbrev pub invariant-loop-place : goal.invariant-loop-place
invariant-loop-place g l = record {
  len : length (g.C.Array.items l.array) ≡ length l.other;
  copied : (place : ℕ) → place < l.place → get_or (g.C.Array.items l.array) place no_link ≡ get_or l.other place no_link;
}
