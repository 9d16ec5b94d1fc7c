use Rattle.std.proofs.Common.{◌≡◌, ℕ, ◌<◌, length, get_or}
use Rattle.ix_hashmap.specs.inner.HashChains.{no_link}
use Rattle.ix_hashmap.proofs.hashmap.chain_table.ChainTable.clear.Given as goal

-- the buckets so far are empty
abbrev pub invariant-loop-number : goal.invariant-loop-number
invariant-loop-number g l = record {
  len : length (g.C.Array.items l.self-inside.links) ≡ l.number-end;
  emptied : (place : ℕ) → place < l.number → get_or (g.C.Array.items l.self-inside.links) place no_link ≡ no_link;
}
