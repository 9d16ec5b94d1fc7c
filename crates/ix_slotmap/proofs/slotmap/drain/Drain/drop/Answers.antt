use Rattle.ix_slotmap.proofs.SlotMapDrains.{counted-cleared}
use Rattle.ix_slotmap.proofs.slotmap.drain.Drain.drop.Goals as goal

pub invariant_of-self : goal.invariant_of-self
invariant_of-self g c = record { counted = counted-cleared c.clear.new.self c.args.self.index c.clear.ensures.empty }
