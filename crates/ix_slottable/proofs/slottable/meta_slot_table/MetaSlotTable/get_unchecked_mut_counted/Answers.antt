use Rattle.std.proofs.Common.{sym, subst}
use Rattle.ix_slottable.specs.SlotTableState.{IsHeld}
use Rattle.ix_slottable.proofs.SlotTableSteps.{Shows-slot_table_set}
use Rattle.ix_slottable.proofs.slottable.meta_slot_table.MetaSlotTable.get_unchecked_mut_counted.Goals as goal

pub invariant_of-self-lent : goal.invariant_of-self-lent
invariant_of-self-lent g c value =
    let held = subst (IsHeld c.args.self.now) (sym c.value.ensures) c.requires in
    (Shows-slot_table_set _ _ _ _ _ _ c.value.result value (record { sound = c.self.invariant; is = c.self.view_is }) held (g.met.M.Items.Table.places_with_item c.self.inside.values c.value.result value)).sound
