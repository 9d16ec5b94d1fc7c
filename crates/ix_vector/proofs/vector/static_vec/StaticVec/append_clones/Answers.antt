use Rattle.std.proofs.Common.{rules, arith, ◌+◌, ◌∙◌, List, length, take, subst}
use Rattle.std.specs.List.{AppendsClones}
use Rattle.ix_vector.proofs.Fronts.{length-front}
use Rattle.ix_vector.proofs.vector.static_vec.StaticVec.append_clones.Goals as goal

pub put_clones-requires : goal.put_clones-requires
put_clones-requires g c =
    let is = c.self.invariant in
    let len = length-front is c.self.view_is in
    (search rules, omega (arith, is.whole, len, c.requires))

pub invariant_of-self : goal.invariant_of-self
invariant_of-self g c = record { within = c.self.invariant.within; whole = c.put_clones.ensures.len ∙ c.self.invariant.whole }

pub invariant_of-self-2 : goal.invariant_of-self-2
invariant_of-self-2 g c =
    let is = c.self.invariant in
    let len = length-front is c.self.view_is in
    record { within = omega (arith, len, c.requires); whole = c.put_clones.ensures.len ∙ is.whole }

pub returns-clause-vector : goal.returns-clause-vector
returns-clause-vector g c =
    subst (λ (old : List g.row.T.Denot). AppendsClones g.T.Clone.is_clone old (take (c.self.inside.len + length c.args.items.now) c.put_clones.new.array.items) c.args.items.now)
    c.self.view_is c.in_ok-put_clones.ensures.places
