use Rattle.std.proofs.Common.{◌∙◌, List, length, drop, reverse, ap, arith}
use Rattle.std.proofs.lemmas.List.{reverse-reverse}
use Rattle.ix_tables.specs.Bounded.{with_items}
use Rattle.ix_vector.specs.VectorSteps.{vec_extend, vec_truncate}
use Rattle.ix_vector.proofs.Tails.{take-reversed, drop-reversed, length-reversed}
use Rattle.ix_vector.proofs.vector.append.move_tail.Goals as goal

pub pop_into-requires : goal.pop_into-requires
pop_into-requires g c =
    let old = (g.V.Vector.bounded c.args.from.now).items in
    let reversed = rw c.as_mut_slice.ensures.value at c.reverse_from.ensures in
    let same = ap length reversed ∙ length-reversed old c.args.at c.requires.at in
    let law = ap (λ vector. length vector.items) (g.met.V.Vector.bounded_with_slice c.args.from.now c.reverse_from.new.items same) in
    record { at = omega (arith, same, law, c.requires.at); room = omega (arith, same, law, c.requires.at, c.requires.room) }

pub returns-clause-from : goal.returns-clause-from
returns-clause-from g c =
    let old = g.V.Vector.bounded c.args.from.now in
    let reversed = rw c.as_mut_slice.ensures.value at c.reverse_from.ensures in
    let same = ap length reversed ∙ length-reversed old.items c.args.at c.requires.at in
    let law = g.met.V.Vector.bounded_with_slice c.args.from.now c.reverse_from.new.items same in
    c.pop_into.ensures.from
    ∙ ap (λ vector. vec_truncate vector c.args.at) (law ∙ ap (with_items old) reversed)
    ∙ ap (with_items old) (take-reversed old.items c.args.at c.requires.at)

pub returns-clause-to : goal.returns-clause-to
returns-clause-to g c =
    let old = g.V.Vector.bounded c.args.from.now in
    let reversed = rw c.as_mut_slice.ensures.value at c.reverse_from.ensures in
    let same = ap length reversed ∙ length-reversed old.items c.args.at c.requires.at in
    let law = ap (λ vector. vector.items) (g.met.V.Vector.bounded_with_slice c.args.from.now c.reverse_from.new.items same) in
    c.pop_into.ensures.to
    ∙ ap (λ (xs : List g.row.T.Denot). vec_extend (g.W.Vector.bounded c.args.to.now) (reverse (drop c.args.at xs))) (law ∙ reversed)
    ∙ ap (λ (xs : List g.row.T.Denot). vec_extend (g.W.Vector.bounded c.args.to.now) (reverse xs)) (drop-reversed old.items c.args.at c.requires.at)
    ∙ ap (vec_extend (g.W.Vector.bounded c.args.to.now)) (reverse-reverse (drop c.args.at old.items))
