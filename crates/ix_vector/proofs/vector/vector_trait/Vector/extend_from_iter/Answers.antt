use Rattle.std.proofs.Common.{◌≡◌, List, sym, ap, append-nil}
use Rattle.std.specs.Iterator.{Drains}
use Rattle.std.proofs.iter.runs.Consumers.{total_runs}
use Rattle.ix_tables.specs.Bounded.{with_items}
use Rattle.ix_vector.specs.VectorSteps.{vec_extend}
use Rattle.ix_vector.proofs.vector.vector_trait.Vector.extend_from_iter.Goals as goal

pub loop-item-init : goal.loop-item-init
loop-item-init g c =
    let ready = c.requires _ c.into_iter-item-iterator.ensures.into_iter_gives in
    (ready.0, ready.1, c.len-old_len.ensures.within, ap (with_items (g.Self.Vector.bounded c.args.self.now)) (sym (append-nil _)))

pub returns-clause-vector : goal.returns-clause-vector
returns-clause-vector g c =
    let made = c.into_iter-item-iterator in
    let extends = λ (xs : List g.row.T.Denot). g.Self.Vector.bounded c.loop-item.self ≡ vec_extend (g.Self.Vector.bounded c.args.self.now) xs in
    let drains : Drains g.U.IntoIter.Iterator.next_gives made.result c.loop-item.yielded
    = (c.next.new.self, (c.loop-item.item-iterator, c.loop-item.yielded_by, c.in-None.ensures.steps)) in
    (made.result, made.ensures.into_iter_gives, total_runs g.U.IntoIter.Iterator.next_gives made.result (Unit {0}) extends (c.loop-item.yielded, (λ _. drains), c.loop-item.invariant.3) tt)
