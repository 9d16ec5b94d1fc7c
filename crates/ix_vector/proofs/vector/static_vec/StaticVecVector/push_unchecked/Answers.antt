use Rattle.std.proofs.Common.{rules, arith, ◌<◌, ◌+◌, ◌∙◌, ◌++◌, [], ◌∷◌, List, length, take, ap}
use Rattle.std.proofs.Math.ListN.{length-set}
use Rattle.std.proofs.lemmas.List.{take_more_set}
use Rattle.ix_vector.proofs.Fronts.{length-front}
use Rattle.ix_vector.proofs.vector.static_vec.StaticVecVector.push_unchecked.Goals as goal

pub put-requires : goal.put-requires
put-requires g c =
    let is = c.self.invariant in
    let len = length-front is c.self.view_is in
    (search rules, omega (arith, is.whole, len, c.requires))

pub invariant_of-self : goal.invariant_of-self
invariant_of-self g c =
    let is = c.self.invariant in
    let len = length-front is c.self.view_is in
    record {
      within = omega (arith, len, c.requires);
      whole = ap length c.put.ensures ∙ length-set c.self.inside.places.items _ _ ∙ is.whole;
    }

pub returns : goal.returns
returns g c =
    let is = c.self.invariant in
    let old = c.self.inside.places.items in
    let len = length-front is c.self.view_is in
    let below : c.self.inside.len < length old = omega (arith, is.whole, len, c.requires) in
    let longer = ap (take (c.self.inside.len + 1)) c.put.ensures ∙ take_more_set old c.self.inside.len c.args.item below in
    ap (λ (items : List g.row.T.Denot). record { items = items; capacity = g.row.CAPACITY }) (longer ∙ ap (λ (items : List g.row.T.Denot). items ++ c.args.item ∷ []) c.self.view_is)
