use Rattle.std.proofs.Common.{sym, ap, subst}
use Rattle.ix_slottable.specs.SlotTableState.{SlotTableState}
use Rattle.ix_flatmap.specs.declared.map.pair.Pair.{Pair}
use Rattle.ix_flatmap.proofs.MapEntries.{HasDistinctKeys-slot_table_new, map_value-vacant}
use Rattle.ix_flatmap.proofs.map.kinds.HeapMap+K+V+A+I.made_of.Goals as goal

pub invariant_of-result : goal.invariant_of-result
invariant_of-result g c = (
  HasDistinctKeys-slot_table_new g.K.PartialEq.eq _ c.in_ok-pairs.pairs c.in_ok-pairs.ensures.value,
  subst (g.I.PairIndex.Fits c.in_ok-index.index) (sym c.in_ok-pairs.ensures.value) c.in_ok-index.ensures.value,
)

pub returns-clause-empty : goal.returns-clause-empty
returns-clause-empty g c key =
    map_value-vacant g.K.PartialEq.eq c.in_ok-pairs.pairs _ (ap (λ (s : SlotTableState (Pair g.row.K.Denot g.row.V.Denot)). s.values) c.in_ok-pairs.ensures.value) key
