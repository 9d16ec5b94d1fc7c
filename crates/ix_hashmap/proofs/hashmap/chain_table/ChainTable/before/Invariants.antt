use Rattle.std.proofs.Common.{◌≡◌, ◌≢◌, List, ℕ, ◌++◌, length}
use Rattle.ix_hashmap.specs.inner.HashChains.{next_at, chain_from, IsChainFrom, IsOnChain}
use Rattle.ix_hashmap.proofs.hashmap.chain_table.ChainTable.before.Given as goal

-- the place comes later than `previous`, up to which the chain was walked
abbrev pub invariant-loop-next : goal.invariant-loop-next
invariant-loop-next g l = record {
  chain : IsChainFrom l.self l.previous;
  has : IsOnChain l.self l.previous l.place;
  apart : l.previous ≢ l.place;
  follows : l.next ≡ next_at l.self l.previous;
  front : List ℕ;
  walked : chain_from l.self l.first ≡ front ++ chain_from l.self l.previous;
}

abbrev pub decreases-loop-next : goal.decreases-loop-next
decreases-loop-next g l = length (chain_from l.self l.previous)
