use Rattle.std.proofs.Common.{arith}
use Rattle.ix_queue.proofs.Rings.{IsHeldAt-front, len_not_zero}
use Rattle.ix_queue.proofs.queue.meta_queue.MetaQueue.peek.Goals as goal

pub get-requires : goal.get-requires
get-requires g c =
    let len = c.len.ensures.value in
    let some = c.if-len-eq0.false in
    IsHeldAt-front _ _ _ _ (record { sound = c.self.invariant; is = c.self.view_is }) (len_not_zero _ _ _ _ (record { sound = c.self.invariant; is = c.self.view_is }) (omega (arith, len, some)))
