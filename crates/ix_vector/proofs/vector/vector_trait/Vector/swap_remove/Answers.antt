use Rattle.std.proofs.Common.{◌≡◌, ◌-◌, ◌<◌, ◌∙◌, List, None, sym, ap, length, arith, rules}
use Rattle.std.specs.List.{swap}
use Rattle.std.specs.Prelude.{slice_get}
use Rattle.std.proofs.lemmas.Option.{slice_get_past}
use Rattle.ix_vector.specs.VectorSteps.{vec_last}
use Rattle.ix_vector.proofs.Lists.{slice_get-swap}
use Rattle.ix_vector.proofs.vector.vector_trait.Vector.swap_remove.Goals as goal

pub returns-then-index-len-clause-value : goal.returns-then-index-len-clause-value
returns-then-index-len-clause-value g c =
    let items = (g.Self.Vector.bounded c.args.self.now).items in
    let i = c.args.index in
    let within = c.if-index-len.true in
    let len = c.len-len.ensures.value in
    let below : i < length items = omega (arith, within, len) in
    let moved = rw c.as_mut_slice.ensures.value at c.swap.ensures.after in
    let same : length c.swap.new.self ≡ length items = search rules in
    let law = g.met.Self.Vector.bounded_with_slice c.args.self.now c.swap.new.self same in
    c.pop.ensures.value
    ∙ ap vec_last law
    ∙ ap (λ n. slice_get c.swap.new.self (n - 1)) same
    ∙ ap (λ (xs : List g.row.T.Denot). slice_get xs (length items - 1)) (moved ∙ ap (λ n. swap items i (n - 1)) len)
    ∙ slice_get-swap items i (length items - 1) below (omega (arith, below))

pub returns-clause-value : goal.returns-clause-value
returns-clause-value g c =
    let items = (g.Self.Vector.bounded c.args.self.now).items in
    let past = c.if-index-len.false in
    let len = c.len-len.ensures.value in
    let none : slice_get items c.args.index ≡ None = slice_get_past items c.args.index (omega (arith, past, len)) in
    sym none
