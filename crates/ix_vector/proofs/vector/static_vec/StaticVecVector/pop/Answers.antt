use Rattle.std.proofs.Common.{rules, arith, ◌∙◌, length, ap}
use Rattle.std.proofs.Math.ListN.{length-set}
use Rattle.ix_vector.proofs.vector.static_vec.StaticVecVector.pop.Goals as goal

pub replace-item-requires : goal.replace-item-requires
replace-item-requires g c = (search rules, omega (arith, c.self.invariant.within, c.self.invariant.whole))

pub invariant_of-self : goal.invariant_of-self
invariant_of-self g c =
    let whole = ap length c.replace-item.ensures.places ∙ length-set c.self.inside.places.items _ _ ∙ c.self.invariant.whole in
    record { within = omega (arith, c.self.invariant.within); whole = whole }
