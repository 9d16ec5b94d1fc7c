use Rattle.std.proofs.Common.{◌≡◌, Some, refl, sym, ap, ◌∙◌, subst}
use Rattle.ix_slottable.specs.SlotTableState.{SlotTableState, value_at, IsHeld}
use Rattle.ix_slottable.specs.SlotTableSteps.{slot_table_vacate}
use Rattle.ix_slottable.proofs.SlotTables.{IsLinkTable-shown, IsKeyOrNone-shown_first}
use Rattle.ix_slottable.proofs.SlotTableSteps.{Shows-slot_table_vacate, SlotTableRemove-vacated}
use Rattle.ix_slottable.proofs.slottable.meta_slot_table.MetaSlotTable.remove_unchecked_counted.Goals as goal

pub insert_first-requires-clause-links : goal.insert_first-requires-clause-links
insert_first-requires-clause-links g c = IsLinkTable-shown _ _ _ _ _ (record { sound = c.self.invariant; is = c.self.view_is })

pub insert_first-requires-clause-first : goal.insert_first-requires-clause-first
insert_first-requires-clause-first g c = IsKeyOrNone-shown_first _ _ _ _ _ (record { sound = c.self.invariant; is = c.self.view_is })

pub invariant_of-self : goal.invariant_of-self
invariant_of-self g c =
    let held = subst (IsHeld c.args.self.now) (sym c.value-key.ensures) c.requires in
    (Shows-slot_table_vacate _ _ _ _ _ _ _ _ _ c.value-key.result (record { sound = c.self.invariant; is = c.self.view_is }) held c.insert_first.ensures.links refl refl c.take-value.ensures.places).sound

pub returns-clause-step : goal.returns-clause-step
returns-clause-step g c =
    let is = c.value-key.ensures in
    let held = subst (IsHeld c.args.self.now) (sym is) c.requires in
    let at = ap (λ (s : SlotTableState g.row.T.Denot). value_at s c.value-key.result) (sym c.self.view_is) ∙ c.take-value.ensures.value in
    let shown = Shows-slot_table_vacate _ _ _ _ _ _ _ _ _ c.value-key.result (record { sound = c.self.invariant; is = c.self.view_is }) held c.insert_first.ensures.links refl refl c.take-value.ensures.places in
    SlotTableRemove-vacated c.args.self.now c.args.key c.take-value.result _
    (subst (λ key. value_at c.args.self.now key ≡ Some c.take-value.result) is at) (shown.is ∙ ap (slot_table_vacate c.args.self.now) is)
