use Rattle.std.proofs.Common.{sym, subst}
use Rattle.ix_flatmap.specs.MapState.{HasDistinctKeys}
use Rattle.ix_flatmap.proofs.MapCopies.{AreEqualClones-pair}
use Rattle.ix_flatmap.proofs.map.clone.HeapMap+K+V+A+I.try_clone_in.Goals as goal

pub try_clone_in-requires : goal.try_clone_in-requires
try_clone_in-requires g c = AreEqualClones-pair g.K.PartialEq.eq g.K.Clone.is_clone g.V.Clone.is_clone c.requires.keys c.requires.values

pub invariant_of-result : goal.invariant_of-result
invariant_of-result g c = (
  subst (HasDistinctKeys g.K.PartialEq.eq) (sym c.in_ok-pairs.ensures.value) c.self.invariant.0,
  c.in_ok-index.ensures.value c.in_ok-pairs.pairs (subst (g.I.PairIndex.Fits c.self.inside.index) (sym c.in_ok-pairs.ensures.value) c.self.invariant.1),
)
