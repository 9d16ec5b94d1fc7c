use Rattle.std.proofs.Common.{length, ap, ◌∙◌}
use Rattle.std.proofs.lemmas.List.{length-replicate}
use Rattle.std.proofs.lemmas.List.FromFn.{length-range_with_len}
use Rattle.ix_tables.proofs.VacantTables.{place_at-replicate}
use Rattle.ix_slottable.specs.SlotTableState.{SlotTableState, value_at}
use Rattle.ix_slottable.proofs.slottable.kinds.FixedSizeSlotTable+T+CAPACITY.new.Goals as goal

pub returns-clause-empty : goal.returns-clause-empty
returns-clause-empty g c key = ap (λ (s : SlotTableState g.row.T.Denot). value_at s key) c.over.ensures ∙ place_at-replicate _ key

pub returns-clause-room : goal.returns-clause-room
returns-clause-room g c =
    ap (λ (s : SlotTableState g.row.T.Denot). length s.free) c.over.ensures ∙ (length-range_with_len 0 _ ∙ (ap length c.new.ensures ∙ length-replicate _ _))
