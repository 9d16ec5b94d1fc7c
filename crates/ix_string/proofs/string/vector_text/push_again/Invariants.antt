use Rattle.std.proofs.Common.{◌≡◌, slice_range}
use Rattle.ix_vector.specs.VectorSteps.{vec_extend}
use Rattle.ix_string.proofs.string.vector_text.push_again.Given as goal

abbrev pub invariant-loop-idx : goal.invariant-loop-idx
invariant-loop-idx g l =
    let old = g.V.Vector.bounded l.initial.vector in
    g.V.Vector.bounded l.vector ≡ vec_extend old (slice_range old.items l.start l.idx)
