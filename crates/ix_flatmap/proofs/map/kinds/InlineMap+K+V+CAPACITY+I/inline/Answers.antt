use Rattle.std.proofs.Common.{length, sym, ap, ◌∙◌, subst}
use Rattle.std.proofs.lemmas.List.FromFn.{length-range_with_len}
use Rattle.ix_slottable.specs.SlotTableState.{SlotTableState}
use Rattle.ix_slottable.proofs.Counts.{held_count-replicate}
use Rattle.ix_flatmap.specs.declared.map.pair.Pair.{Pair}
use Rattle.ix_flatmap.proofs.MapEntries.{HasDistinctKeys-slot_table_new, map_value-vacant}
use Rattle.ix_flatmap.proofs.map.kinds.InlineMap+K+V+CAPACITY+I.inline.Goals as goal

pub invariant_of-result : goal.invariant_of-result
invariant_of-result g c = (
  HasDistinctKeys-slot_table_new g.K.PartialEq.eq _ c.default.result c.default.ensures,
  subst (g.I.PairIndex.Fits c.new_inline.result) (sym c.default.ensures) c.new_inline.ensures,
)

pub returns-clause-empty : goal.returns-clause-empty
returns-clause-empty g c key =
    map_value-vacant g.K.PartialEq.eq c.default.result _ (ap (λ (s : SlotTableState (Pair g.row.K.Denot g.row.V.Denot)). s.values) c.default.ensures) key

pub returns-clause-count : goal.returns-clause-count
returns-clause-count g c = held_count-replicate c.default.result _ (ap (λ (s : SlotTableState (Pair g.row.K.Denot g.row.V.Denot)). s.values) c.default.ensures)

pub returns-clause-room : goal.returns-clause-room
returns-clause-room g c =
    ap (λ (s : SlotTableState (Pair g.row.K.Denot g.row.V.Denot)). length s.free) c.default.ensures ∙ length-range_with_len 0 _
