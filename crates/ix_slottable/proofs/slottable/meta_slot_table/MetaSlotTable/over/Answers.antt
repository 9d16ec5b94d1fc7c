use Rattle.std.proofs.Common.{length, None, sym, ap, ◌∙◌, arith}
use Rattle.std.specs.Prelude.{replicate}
use Rattle.ix_slottable.specs.SlotTableState.{slot_table_new}
use Rattle.ix_slottable.proofs.SlotTableSteps.{Shows-slot_table_new}
use Rattle.ix_slottable.proofs.slottable.meta_slot_table.MetaSlotTable.over.Goals as goal

pub invariant_of-result : goal.invariant_of-result
invariant_of-result g c =
    let same = ap g.M.Items.Table.places c.new-values.ensures in
    let len = c.len.ensures.value ∙ ap length same in
    let bound = c.len.type_inv in
    (Shows-slot_table_new _ _ _ _ (same ∙ c.requires.values ∙ ap (λ n. replicate n None) (sym len)) c.link_all-first.ensures.links c.link_all-first.ensures.first (omega arith)).sound

pub returns : goal.returns
returns g c =
    let same = ap g.M.Items.Table.places c.new-values.ensures in
    let len = c.len.ensures.value ∙ ap length same in
    let bound = c.len.type_inv in
    (Shows-slot_table_new _ _ _ _ (same ∙ c.requires.values ∙ ap (λ n. replicate n None) (sym len)) c.link_all-first.ensures.links c.link_all-first.ensures.first (omega arith)).is
    ∙ ap slot_table_new len
