use Rattle.std.proofs.Common.{sym, subst}
use Rattle.ix_slottable.specs.SlotTableCopies.{SlotTableIsInfallible}
use Rattle.ix_flatmap.specs.MapCopies.{PairIsInfallible}
use Rattle.ix_flatmap.proofs.MapCopies.{HasDistinctKeys-clone, equal_keys-clone}
use Rattle.ix_flatmap.proofs.map.clone.InlineMapClone.clone.Goals as goal

pub invariant_of-result : goal.invariant_of-result
invariant_of-result g c = (
  HasDistinctKeys-clone g.K.PartialEq.eq g.met.K.Eq.laws g.K.Clone.is_clone g.V.Clone.is_clone c.self.inside.pairs c.in-Ok.pairs c.in-Ok.ensures.cases c.self.invariant.0,
  g.met.I.KeyIndex.Fits_equal_keys c.copy_inline.result c.self.inside.pairs c.in-Ok.pairs
      (equal_keys-clone g.K.PartialEq.eq g.K.Clone.is_clone g.V.Clone.is_clone c.self.inside.pairs c.in-Ok.pairs c.in-Ok.ensures.cases) (c.copy_inline.ensures c.self.inside.pairs c.self.invariant.1),
)

pub returns-in-Err : goal.returns-in-Err
returns-in-Err g c = record {
  cases = λ all. c.in-Err.ensures.cases
      (subst (SlotTableIsInfallible (PairIsInfallible g.K.PartialEq.eq g.K.Clone.is_clone g.K.Clone.is_infallible g.V.Clone.is_infallible)) (sym c.self.view_is) all);
}
