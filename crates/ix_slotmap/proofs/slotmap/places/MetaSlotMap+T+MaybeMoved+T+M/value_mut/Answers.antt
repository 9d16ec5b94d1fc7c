use Rattle.std.proofs.Common.{refl}
use Rattle.ix_slotmap.proofs.Words.{writes}
use Rattle.ix_slotmap.proofs.slotmap.places.MetaSlotMap+T+MaybeMoved+T+M.value_mut.Goals as goal

pub invariant_of-self-lent : goal.invariant_of-self-lent
invariant_of-self-lent g c value =
    writes c.self.inside.slots c.self.inside.words c.self.inside.retired c.self.invariant c.args.self.now c.self.view_is c.args.index c.new-place.result c.new-place.ensures _ c.self.inside.words c.requires value refl
