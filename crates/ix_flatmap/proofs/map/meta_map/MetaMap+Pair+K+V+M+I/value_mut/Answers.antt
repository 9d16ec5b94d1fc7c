use Rattle.std.proofs.Common.{arith}
use Rattle.std.proofs.lemmas.Grind.{common_steps}
use Rattle.ix_flatmap.proofs.MapCopies.{equal_keys-set}
use Rattle.ix_flatmap.proofs.map.meta_map.MetaMap+Pair+K+V+M+I.value_mut.Goals as goal

pub invariant_of-self-lent : goal.invariant_of-self-lent
invariant_of-self-lent g c w = (
  grind (arith, common_steps),
  g.met.I.KeyIndex.Fits_equal_keys c.self.inside.index c.self.inside.pairs _
      (equal_keys-set g.K.PartialEq.eq g.met.K.Eq.laws c.self.inside.pairs c.args.place c.get_unchecked_mut.result.now w c.get_unchecked_mut.ensures.value) c.self.invariant.1,
)
