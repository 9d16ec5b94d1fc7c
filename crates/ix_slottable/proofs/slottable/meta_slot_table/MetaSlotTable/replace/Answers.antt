use Rattle.std.proofs.Common.{ap, ◌∙◌}
use Rattle.ix_slottable.proofs.SlotTableSteps.{Shows-slot_table_set}
use Rattle.ix_slottable.specs.SlotTableState.{SlotTableState, held_count}
use Rattle.ix_slottable.proofs.SlotTables.{IsWellFormed-shown}
use Rattle.ix_slottable.proofs.Counts.{held_count-slot_table_fill_held, free-slot_table_fill_held}
use Rattle.ix_slottable.proofs.slottable.meta_slot_table.MetaSlotTable.replace.Goals as goal

pub invariant_of-self : goal.invariant_of-self
invariant_of-self g c =
    (Shows-slot_table_set _ _ _ _ _ _ c.args.key c.args.value (record { sound = c.self.invariant; is = c.self.view_is }) c.requires (g.met.M.Items.Table.places_with_item c.self.inside.values c.args.key c.args.value)).sound

pub returns-clause-map : goal.returns-clause-map
returns-clause-map g c =
    (Shows-slot_table_set _ _ _ _ _ _ c.args.key c.args.value (record { sound = c.self.invariant; is = c.self.view_is }) c.requires (g.met.M.Items.Table.places_with_item c.self.inside.values c.args.key c.args.value)).is

pub returns-clause-count : goal.returns-clause-count
returns-clause-count g c = ap held_count (returns-clause-map g c) ∙ held_count-slot_table_fill_held c.args.self.now c.args.key c.args.value c.requires

pub returns-clause-free : goal.returns-clause-free
returns-clause-free g c =
    ap (λ (s : SlotTableState g.row.T.Denot). s.free) (returns-clause-map g c)
    ∙ free-slot_table_fill_held c.args.self.now c.args.key c.args.value (IsWellFormed-shown _ _ _ _ _ (record { sound = c.self.invariant; is = c.self.view_is })) c.requires
