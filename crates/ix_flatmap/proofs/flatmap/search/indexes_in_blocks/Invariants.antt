use Rattle.std.proofs.Common.{◌+◌}
use Rattle.ix_flatmap.specs.inner.FlatSearch.{IsFoundIn}
use Rattle.ix_flatmap.specs.declared.flatmap.search.TheConstants.{BLOCK_LEN}
use Rattle.ix_flatmap.proofs.flatmap.search.indexes_in_blocks.Given as goal

-- the place found has the key, or no place so far has it, of either block
abbrev pub invariant-loop-i : goal.invariant-loop-i
invariant-loop-i g l =
    IsFoundIn g.K.PartialEq.eq l.pairs l.key l.start BLOCK_LEN l.i l.first
    × IsFoundIn g.K.PartialEq.eq l.pairs l.key (l.start + BLOCK_LEN) BLOCK_LEN l.i l.second
