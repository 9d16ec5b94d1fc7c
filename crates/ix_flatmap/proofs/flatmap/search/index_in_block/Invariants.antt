use Rattle.ix_flatmap.specs.inner.FlatSearch.{IsFoundIn}
use Rattle.ix_flatmap.specs.declared.flatmap.search.TheConstants.{BLOCK_LEN}
use Rattle.ix_flatmap.proofs.flatmap.search.index_in_block.Given as goal

-- the place found has the key, or no place so far has it
abbrev pub invariant-loop-i : goal.invariant-loop-i
invariant-loop-i g l = IsFoundIn g.K.PartialEq.eq l.pairs l.key l.start BLOCK_LEN l.i l.found
