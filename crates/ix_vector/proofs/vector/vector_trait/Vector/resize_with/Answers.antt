use Rattle.std.proofs.Common.{of_calls, arith, refl, ◌≡◌, ◌+◌, ◌-◌, [], ◌∷◌, ◌++◌, append_assoc, length-append, length, sym, ap, ap₂, ◌∙◌}
use Rattle.std.specs.Prelude.{replicate}
use Rattle.std.proofs.lemmas.Fn.{FoldsTo-push}
use Rattle.std.proofs.lemmas.List.{take_all}
use Rattle.ix_tables.specs.Bounded.{with_items}
use Rattle.ix_tables.proofs.Calls.{Callable-now, Callable-on}
use Rattle.ix_vector.specs.VectorSteps.{vec_extend}
use Rattle.ix_vector.proofs.Computed.{FoldsTo-replicate}
use Rattle.ix_vector.proofs.vector.vector_trait.Vector.resize_with.Goals as goal

pub f-requires : goal.f-requires
f-requires g c =
    let k = c.loop-i._i - c.len-old_len.result in
    let more = c.loop-i-test.true in
    Callable-now c.loop-i.invariant.callable k (k + 1) (omega (arith, more), refl, refl)

pub loop-i-preserved : goal.loop-i-preserved
loop-i-preserved g c =
    let at = c.loop-i.invariant in
    let ys = at.grown.0 in
    let x = c.f.result in
    let old = g.Self.Vector.bounded c.args.self.now in
    let from = c.loop-i.auto._i in
    let counted = at.grown.1 in
    let more = c.loop-i-test.true in
    let longer : length (ys ++ x ∷ []) ≡ c.loop-i._i + 1 - c.len-old_len.result = omega (arith, length-append ys (x ∷ [])) in
    let bounded_push : g.Self.Vector.bounded c.push_unchecked.new.self ≡ vec_extend old (ys ++ x ∷ []) =
    rw (c.push_unchecked.ensures, at.grown.2, append_assoc) in
    record {
      callable =
          Callable-on at.callable (c.loop-i._i - c.len-old_len.result) (c.loop-i._i + 1 - c.len-old_len.result) (omega (arith, more), refl, omega (arith, from)) c.f.new.self (x, search of_calls);
      grown = (ys ++ x ∷ [], longer, bounded_push, FoldsTo-push _ _ ys _ _ _ at.grown.3 (search of_calls));
    }

pub returns-clause-computed : goal.returns-clause-computed
returns-clause-computed g c item one =
    let old = g.Self.Vector.bounded c.args.self.now in
    let (ys, counted, is, calls) = c.loop-i.invariant.grown in
    let end = c.loop-i-test.false in
    let longer = c.if-n-old_len.false in
    let len = c.len-old_len.ensures.value in
    let many : length ys ≡ c.args.n - length old.items = omega (arith, counted, end, longer, len) in
    is ∙ ap₂ (λ front back. with_items old (front ++ back)) (sym (take_all c.args.n old.items (omega (arith, longer, len))))
    (FoldsTo-replicate _ item _ one ys _ calls ∙ ap (λ k. replicate k item) many)
