use Rattle.std.proofs.Common.{◌≡◌, ◌++◌, ◌≤◌, List, length, reverse}
use Rattle.ix_tables.specs.Bounded.{with_items}
use Rattle.ix_vector.specs.VectorSteps.{vec_extend}
use Rattle.ix_vector.proofs.vector.append.pop_into.Given as goal

-- the last items are in the other vector already
abbrev pub invariant-loop-from : goal.invariant-loop-from
invariant-loop-from g l =
    let old = g.V.Vector.bounded l.initial.from in
    (items moved : List g.row.T.Denot)
    × (old.items ≡ items ++ reverse moved)
    × (l.at ≤ length items)
    × (g.V.Vector.bounded l.from ≡ with_items old items)
    × (g.W.Vector.bounded l.to ≡ vec_extend (g.W.Vector.bounded l.initial.to) moved)

abbrev pub decreases-loop-from : goal.decreases-loop-from
decreases-loop-from g l = length (g.V.Vector.bounded l.from).items
