use Rattle.std.proofs.Common.{of_calls, arith, refl, ◌+◌, ap, [], ◌∷◌, ◌++◌, rules, ◌≡◌, ◌∙◌, map, length, length-append}
use Rattle.std.specs.List.{range_with_len}
use Rattle.ix_tables.proofs.Calls.{ResultsFrom-push, Callable-now, Callable-on}
use Rattle.ix_vector.proofs.Computed.{ResultsFrom-map}
use Rattle.ix_vector.proofs.vector.polymorphic_vec.PolymorphicVec.from_fn.Goals as goal

pub f-requires : goal.f-requires
f-requires g c = Callable-now c.loop-n.invariant.callable c.loop-n.n (c.loop-n.n + 1) (c.loop-n-test.true, refl, refl)

pub loop-n-preserved : goal.loop-n-preserved
loop-n-preserved g c =
    let at = c.loop-n.invariant in
    let vector = c.loop-n.vector in
    let x = c.f.result in
    let put = c.push_unchecked.ensures in
    let items : c.push_unchecked.new.self.items ≡ vector.items ++ x ∷ [] = rw put in
    let kept : c.push_unchecked.new.self.capacity ≡ vector.capacity = rw put in
    record {
      callable = Callable-on at.callable c.loop-n.n (c.loop-n.n + 1) (c.loop-n-test.true, refl, refl) c.f.new.self (x, search of_calls);
      capacity = rw kept at.capacity;
      len = omega (arith, ap length items, length-append vector.items (x ∷ []), at.len);
      answers = rw items (ResultsFrom-push _ 0 c.loop-n.n _ vector.items _ x _ (omega (arith, at.len)) at.answers (search of_calls));
    }

pub returns-clause-computed : goal.returns-clause-computed
returns-clause-computed g c item computes =
    let at = c.loop-n.invariant in
    let end = c.loop-n-test.false in
    let all : c.loop-n.n ≡ c.args.capacity = search rules in
    ResultsFrom-map (λ p i x q. goal.F-step g p i x q) _ item computes 0 _ _ at.answers ∙ ap (λ n. map item (range_with_len 0 n)) (at.len ∙ all)
