use Rattle.std.proofs.Common.{length, ap, arith}
use Rattle.ix_slottable.specs.SlotTableState.{SlotTableState}
use Rattle.ix_slottable.proofs.SlotTables.{free_by_link, held_by_link, link_held}
use Rattle.ix_slottable.proofs.slottable.meta_slot_table.MetaSlotTable.is_free.Goals as goal

pub get-requires : goal.get-requires
get-requires g c = link_held _ _ _ _ _ c.args.key (record { sound = c.self.invariant; is = c.self.view_is }) c.requires

pub returns-clause-free : goal.returns-clause-free
returns-clause-free g c is_free =
    free_by_link _ _ _ _ _ c.args.key _ (record { sound = c.self.invariant; is = c.self.view_is }) c.get.ensures.value (c.is_free.ensures.free is_free)

pub returns-clause-held : goal.returns-clause-held
returns-clause-held g c held =
    held_by_link _ _ _ _ _ c.args.key _ (record { sound = c.self.invariant; is = c.self.view_is }) c.requires c.get.ensures.value (c.is_free.ensures.held held)

pub returns-clause-below : goal.returns-clause-below
returns-clause-below g c = let most = c.self.invariant.below in let same = ap (λ (s : SlotTableState g.row.T.Denot). length s.values) c.self.view_is in let within = c.requires in omega (arith, most, same, within)
