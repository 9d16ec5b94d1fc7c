use Rattle.std.proofs.Common.{◌*◌}
use Rattle.ix_flatmap.specs.inner.FlatSearch.{HasNoKeyIn}
use Rattle.ix_flatmap.specs.declared.flatmap.search.TheConstants.{ROW_LEN}
use Rattle.ix_flatmap.proofs.flatmap.search.find_by_rows.Given as goal

-- no place of the rows so far has the key
abbrev pub invariant-loop-row : goal.invariant-loop-row
invariant-loop-row g l = HasNoKeyIn g.K.PartialEq.eq l.pairs l.key 0 (l.row * ROW_LEN)
