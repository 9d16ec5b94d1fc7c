use Rattle.std.proofs.Common.{refl}
use Rattle.ix_flatmap.proofs.MapCalls.{called_at_place}
use Rattle.ix_flatmap.proofs.MapCopies.{equal_keys-set}
use Rattle.ix_flatmap.proofs.MapSteps.{HasDistinctKeys-set}
use Rattle.ix_flatmap.proofs.map.retain.MetaMap+Pair+K+V+M+I.call_at.Goals as goal

pub returns-clause-called : goal.returns-clause-called
returns-clause-called g c pair at =
    called_at_place _ c.args.self.now c.self.inside.pairs c.args.place pair c.get_unchecked_mut-pair.result.now _ _ _ _ _ _ c.self.view_is at c.get_unchecked_mut-pair.ensures.value refl refl c.f.ensures

pub returns-clause-distinct : goal.returns-clause-distinct
returns-clause-distinct g c =
    let at = c.get_unchecked_mut-pair.ensures.value in
    HasDistinctKeys-set g.K.PartialEq.eq g.met.K.Eq.laws c.self.inside.pairs _ _ c.self.invariant.0 c.args.place c.get_unchecked_mut-pair.result.now (record { at = at; equal = g.met.K.Eq.laws.refl _ })

pub invariant_of-self : goal.invariant_of-self
invariant_of-self g c = (
  returns-clause-distinct g c,
  g.met.I.KeyIndex.Fits_equal_keys c.self.inside.index c.self.inside.pairs _
      (equal_keys-set g.K.PartialEq.eq g.met.K.Eq.laws c.self.inside.pairs c.args.place c.get_unchecked_mut-pair.result.now c.f.new.arg3 c.get_unchecked_mut-pair.ensures.value) c.self.invariant.1,
)
