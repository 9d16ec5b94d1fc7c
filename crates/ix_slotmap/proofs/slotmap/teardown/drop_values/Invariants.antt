use Rattle.ix_slotmap.proofs.WordedValues.{MatchesFrom}
use Rattle.ix_slotmap.proofs.slotmap.teardown.drop_values.Given as goal

abbrev pub invariant-loop-index : goal.invariant-loop-index
invariant-loop-index g l = MatchesFrom g.C.Content.is_retired l.slots l.words l.index l.end
