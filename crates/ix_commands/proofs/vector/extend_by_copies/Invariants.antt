use Rattle.std.proofs.Common.{◌≡◌, ◌≤◌, ◌+◌, length, take}
use Rattle.ix_vector.specs.VectorSteps.{vec_extend}
use Rattle.ix_commands.proofs.vector.extend_by_copies.Given as goal

abbrev pub invariant-loop-item : goal.invariant-loop-item
invariant-loop-item g l =
    let old = g.V.Vector.bounded l.initial.vector in
    (g.V.Vector.bounded l.vector ≡ vec_extend old (take l.item-index l.items))
    × (length old.items + length l.items ≤ old.capacity)
