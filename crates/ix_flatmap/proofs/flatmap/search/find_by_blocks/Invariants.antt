use Rattle.std.proofs.Common.{◌*◌}
use Rattle.ix_flatmap.specs.inner.FlatSearch.{HasNoKeyIn}
use Rattle.ix_flatmap.specs.declared.flatmap.search.TheConstants.{BLOCK_LEN}
use Rattle.ix_flatmap.proofs.flatmap.search.find_by_blocks.Given as goal

-- no place of the blocks so far has the key
abbrev pub invariant-loop-block : goal.invariant-loop-block
invariant-loop-block g l = HasNoKeyIn g.K.PartialEq.eq l.pairs l.key 0 (l.block * BLOCK_LEN)
