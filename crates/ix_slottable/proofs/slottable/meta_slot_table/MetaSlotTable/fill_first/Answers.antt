use Rattle.ix_slottable.proofs.SlotTables.{IsLinkTable-shown, key_within}
use Rattle.ix_slottable.proofs.SlotTableSteps.{first_is_free, next_within, Shows-slot_table_insert}
use Rattle.ix_slottable.proofs.slottable.meta_slot_table.MetaSlotTable.fill_first.Goals as goal

pub remove_first-requires-clause-links : goal.remove_first-requires-clause-links
remove_first-requires-clause-links g c = IsLinkTable-shown _ _ _ _ _ (record { sound = c.self.invariant; is = c.self.view_is })

pub remove_first-requires-clause-key : goal.remove_first-requires-clause-key
remove_first-requires-clause-key g c =
    key_within _ _ _ _ _ _ (record { sound = c.self.invariant; is = c.self.view_is }) (first_is_free _ _ _ _ _ c.args.value (record { sound = c.self.invariant; is = c.self.view_is }) c.requires)

pub remove_first-requires-clause-next : goal.remove_first-requires-clause-next
remove_first-requires-clause-next g c =
    next_within _ _ _ _ _ c.args.value (record { sound = c.self.invariant; is = c.self.view_is }) c.requires _ c.get.ensures.value

pub invariant_of-self : goal.invariant_of-self
invariant_of-self g c =
    (Shows-slot_table_insert _ _ _ _ _ _ _ c.args.value _ (record { sound = c.self.invariant; is = c.self.view_is }) c.requires c.get.ensures.value c.remove_first.ensures.links c.put.ensures.places).sound

pub returns-clause-map : goal.returns-clause-map
returns-clause-map g c =
    (Shows-slot_table_insert _ _ _ _ _ _ _ c.args.value _ (record { sound = c.self.invariant; is = c.self.view_is }) c.requires c.get.ensures.value c.remove_first.ensures.links c.put.ensures.places).is
