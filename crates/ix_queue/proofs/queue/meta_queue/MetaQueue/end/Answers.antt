use Rattle.std.proofs.Common.{arith}
use Rattle.std.proofs.lemmas.Grind.{common_steps}
use Rattle.ix_queue.proofs.Rings.{IsVacant-ring}
use Rattle.ix_queue.proofs.queue.meta_queue.MetaQueue.end.Goals as goal

pub end-requires : goal.end-requires
end-requires g c =
    IsVacant-ring _ _ _ _ (record { sound = c.self.invariant; is = c.self.view_is }) (grind (arith, common_steps))
