use Rattle.std.proofs.Common.{length}
use Rattle.ix_hashmap.specs.inner.HashChains.{chain_from, LeadsToKey}
use Rattle.ix_hashmap.proofs.hashmap.search.find_later.Given as goal

-- if the map has the key, it is in the rest of the chain
abbrev pub invariant-loop-place : goal.invariant-loop-place
invariant-loop-place g l = LeadsToKey g.K.PartialEq.eq l.pairs l.chains l.key l.place

abbrev pub decreases-loop-place : goal.decreases-loop-place
decreases-loop-place g l = length (chain_from l.chains l.place)
