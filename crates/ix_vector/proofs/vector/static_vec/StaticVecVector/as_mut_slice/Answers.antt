use Rattle.std.proofs.Common.{List, refl, arith, rules}
use Rattle.std.specs.List.{length_refill}
use Rattle.ix_vector.proofs.Fronts.{length-front}
use Rattle.ix_vector.proofs.Lists.{take-refill}
use Rattle.ix_vector.proofs.vector.static_vec.StaticVecVector.as_mut_slice.Goals as goal

pub invariant_of-self-lent : goal.invariant_of-self-lent
invariant_of-self-lent g c w =
    let places = c.self.inside.places.items in
    let is = c.self.invariant in
    record { within = is.within; whole = omega (arith, length_refill _ places w refl, is.whole) }

pub returns : goal.returns
returns g c =
    let places = c.self.inside.places.items in
    let is = c.self.invariant in
    let shown = λ (w : List g.row.T.Denot). take-refill c.self.inside.len places w (omega (arith, is.whole, is.within)) in (
      (refl {a = c.front_mut.result.ghost_name}, λ w. rw (← c.self.view_is) (shown w)),
      record { writes_back = tt; value = search rules; within = omega (arith, length-front is c.self.view_is, is.within) },
    )
