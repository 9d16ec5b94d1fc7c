use Rattle.std.proofs.Common.{◌≡◌, suc, ◌-◌, None, sym, add-one, length, arith, rules}
use Rattle.std.specs.Prelude.{slice_get}
use Rattle.std.proofs.lemmas.Option.{slice_get_past}
use Rattle.ix_vector.proofs.Lists.{slice_get-move_to_end}
use Rattle.ix_vector.proofs.vector.vector_trait.Vector.remove.Goals as goal

pub returns-then-index-len-clause-value : goal.returns-then-index-len-clause-value
returns-then-index-len-clause-value g c =
    let items = (g.Self.Vector.bounded c.args.self.now).items in
    let i = c.args.index in
    let within = c.if-index-len.true in
    let one : suc i - i ≡ 1 = omega arith in
    let moved = rw c.as_mut_slice.ensures.value at c.move_to_end.ensures in
    let same : length c.move_to_end.new.items ≡ length items = search rules in
    let law = g.met.Self.Vector.bounded_with_slice c.args.self.now c.move_to_end.new.items same in
    rw (c.pop.ensures.value, law, same, moved, add-one, one) (slice_get-move_to_end items i (omega arith))

pub returns-clause-value : goal.returns-clause-value
returns-clause-value g c =
    let items = (g.Self.Vector.bounded c.args.self.now).items in
    let past = c.if-index-len.false in
    let none : slice_get items c.args.index ≡ None = slice_get_past items c.args.index (omega arith) in
    sym none
