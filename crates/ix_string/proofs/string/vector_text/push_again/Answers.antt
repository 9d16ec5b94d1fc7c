use Rattle.std.proofs.Common.{ℕ, ◌≡◌, ◌∙◌, slice_range, get_or, ap, arith}
use Rattle.std.proofs.lemmas.List.{get_or_append_left}
use Rattle.ix_tables.specs.Bounded.{Bounded}
use Rattle.ix_string.proofs.Insertions.{vec_extend-more}
use Rattle.ix_string.proofs.string.vector_text.push_again.Goals as goal

pub loop-idx-preserved : goal.loop-idx-preserved
loop-idx-preserved g c =
    let old = g.V.Vector.bounded c.args.vector.now in
    let held = g.V.Vector.bounded c.loop-idx.vector in
    let i = c.loop-idx.idx in
    let a = c.args.start in
    let is = c.loop-idx.invariant in
    let items = ap (λ (b : Bounded ℕ). get_or b.items i 0) is in
    let read : get_or c.as_slice.result.now i 0 ≡ get_or old.items i 0 =
    rw c.as_slice.ensures.value (items ∙ get_or_append_left old.items (slice_range old.items a i) 0 i (omega arith)) in
    c.push_unchecked.ensures ∙ vec_extend-more old held a i (get_or c.as_slice.result.now i 0) 0 (omega arith) (omega arith) is read
