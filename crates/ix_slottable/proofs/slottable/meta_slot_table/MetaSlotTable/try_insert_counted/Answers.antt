use Rattle.std.proofs.Common.{Some, sym, subst}
use Rattle.std.proofs.lemmas.Bool.{iff_false}
use Rattle.ix_slottable.specs.SlotTableSteps.{SlotTableInsert}
use Rattle.ix_slottable.proofs.SlotTableSteps.{SlotTableInsert-refused, SlotTableInsert-filled}
use Rattle.ix_slottable.proofs.slottable.meta_slot_table.MetaSlotTable.try_insert_counted.Goals as goal

pub returns-then-is_full-clause-step : goal.returns-then-is_full-clause-step
returns-then-is_full-clause-step g c = SlotTableInsert-refused _ c.args.value (c.is_full.ensures.free.0 c.if-is_full.true)

pub returns-clause-step : goal.returns-clause-step
returns-clause-step g c =
    subst (λ key. SlotTableInsert c.args.self.now c.args.value c.fill_first.new.self (Some key)) (sym c.new.ensures)
    (SlotTableInsert-filled _ _ _ _ _ c.args.value _ (record { sound = c.self.invariant; is = c.self.view_is }) (iff_false c.is_full.ensures.free c.if-is_full.false) c.fill_first.ensures.map)
