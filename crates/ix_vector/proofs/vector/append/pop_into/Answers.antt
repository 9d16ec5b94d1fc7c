use Rattle.std.proofs.Common.{◌≡◌, ◌-◌, ◌≤◌, ◌∙◌, ◌++◌, [], ◌∷◌, length, take, refl, sym, ap, arith, append-nil, append_assoc, length-append}
use Rattle.std.proofs.lemmas.Grind.{common_steps}
use Rattle.ix_tables.specs.Bounded.{with_items}
use Rattle.ix_vector.specs.VectorSteps.{vec_extend, vec_pop, vec_last}
use Rattle.ix_vector.proofs.Tails.{no_last, popped-next, popped-count, popped-items, popped-moved}
use Rattle.ix_vector.proofs.vector.append.pop_into.Goals as goal

pub loop-from-init : goal.loop-from-init
loop-from-init g c =
    let old = g.V.Vector.bounded c.args.from.now in
    (old.items, [], sym (append-nil old.items), c.requires.at, refl, ap (with_items (g.W.Vector.bounded c.args.to.now)) (sym (append-nil _)))

pub push_unchecked-requires : goal.push_unchecked-requires
push_unchecked-requires g c =
    let (items, moved, whole, at, from, to) = c.loop-from.invariant in
    let count = popped-count _ items moved whole in
    let test = c.loop-from-test.true in
    let len = c.len.ensures.value ∙ ap (λ vector. length vector.items) from in
    let more = ap (λ vector. length vector.items) to ∙ length-append _ moved in
    let capacity = ap (λ vector. vector.capacity) to in
    omega (arith, count, test, len, more, capacity, c.requires.room, c.requires.at)

pub loop-from-preserved-in-Some : goal.loop-from-preserved-in-Some
loop-from-preserved-in-Some g c =
    let (items, moved, whole, at, from, to) = c.loop-from.invariant in
    let x = c.in-Some.item in
    let test = c.loop-from-test.true in
    let len = c.len.ensures.value ∙ ap (λ vector. length vector.items) from in
    let last = sym (ap vec_last from) ∙ sym c.in-Some.ensures.value in
    let shorter : c.args.at ≤ length (take (length items - 1) items) = grind (arith, common_steps) in (
      take (length items - 1) items,
      moved ++ x ∷ [],
      popped-next _ items moved x whole last,
      shorter,
      c.in-Some.ensures.vector ∙ ap vec_pop from,
      c.push_unchecked.ensures ∙ ap (λ vector. with_items vector (vector.items ++ x ∷ [])) to ∙ ap (with_items (g.W.Vector.bounded c.args.to.now)) (append_assoc _ moved (x ∷ [])),
    )

pub loop-from-preserved : goal.loop-from-preserved
loop-from-preserved g c =
    let (items, moved, whole, at, from, to) = c.loop-from.invariant in
    let test = c.loop-from-test.true in
    let len = c.len.ensures.value ∙ ap (λ vector. length vector.items) from in
    let none = ap length (no_last items (c.in_default.ensures.value ∙ ap vec_last from)) in
    absurd (omega (arith, test, len, none))

pub returns-clause-from : goal.returns-clause-from
returns-clause-from g c =
    let (items, moved, whole, at, from, to) = c.loop-from.invariant in
    let test = c.loop-from-test.false in
    let len = c.len.ensures.value ∙ ap (λ vector. length vector.items) from in
    let end : length items ≡ c.args.at = omega (arith, test, len, at) in
    from ∙ ap (with_items (g.V.Vector.bounded c.args.from.now)) (popped-items _ items moved c.args.at whole end)

pub returns-clause-to : goal.returns-clause-to
returns-clause-to g c =
    let (items, moved, whole, at, from, to) = c.loop-from.invariant in
    let test = c.loop-from-test.false in
    let len = c.len.ensures.value ∙ ap (λ vector. length vector.items) from in
    let end : length items ≡ c.args.at = omega (arith, test, len, at) in
    to ∙ ap (vec_extend (g.W.Vector.bounded c.args.to.now)) (popped-moved _ items moved c.args.at whole end)
