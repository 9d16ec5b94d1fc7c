use Rattle.ix_slottable.proofs.SlotTableDrains.{counted-vacant}
use Rattle.ix_slottable.proofs.slottable.drain.Drain.drop.Goals as goal

pub invariant_of-self : goal.invariant_of-self
invariant_of-self g c = record { counted = counted-vacant c.clear.new.self _ c.args.self.key c.clear.ensures.values }
