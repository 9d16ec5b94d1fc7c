use Rattle.std.proofs.Common.{◌+◌, length, ap, ◌∙◌, subst}
use Rattle.ix_slottable.specs.inner.FreeList.{IsLinkWithin}
use Rattle.ix_slottable.proofs.SlotTables.{IsWellFormed-shown, IsLinkTable-shown, key_within, IsLinkWithin-shown, place_at-free, IsEmptyAt-free}
use Rattle.ix_slottable.proofs.SlotTableSteps.{Shows-slot_table_fill}
use Rattle.ix_slottable.specs.SlotTableState.{SlotTableState, held_count}
use Rattle.ix_slottable.proofs.Counts.{held_count-slot_table_fill, free-slot_table_fill}
use Rattle.ix_slottable.proofs.slottable.meta_slot_table.MetaSlotTable.fill.Goals as goal

pub remove-requires-clause-links : goal.remove-requires-clause-links
remove-requires-clause-links g c = IsLinkTable-shown _ _ _ _ _ (record { sound = c.self.invariant; is = c.self.view_is })

pub remove-requires-clause-key : goal.remove-requires-clause-key
remove-requires-clause-key g c = key_within _ _ _ _ _ c.args.key (record { sound = c.self.invariant; is = c.self.view_is }) c.requires.free

pub remove-requires-clause-link : goal.remove-requires-clause-link
remove-requires-clause-link g c =
    let at = place_at-free _ _ _ _ _ c.args.key (record { sound = c.self.invariant; is = c.self.view_is }) c.args.link c.requires.free c.requires.link in
    subst (λ link. IsLinkWithin link (g.M.Links.Table.places c.self.inside.links)) at (IsLinkWithin-shown _ _ _ _ _ c.args.key (record { sound = c.self.invariant; is = c.self.view_is }) c.requires.free)

pub put-requires : goal.put-requires
put-requires g c = IsEmptyAt-free _ _ _ _ _ c.args.key (record { sound = c.self.invariant; is = c.self.view_is }) c.requires.free

pub invariant_of-self : goal.invariant_of-self
invariant_of-self g c =
    let at = place_at-free _ _ _ _ _ c.args.key (record { sound = c.self.invariant; is = c.self.view_is }) c.args.link c.requires.free c.requires.link in
    (Shows-slot_table_fill _ _ _ _ _ _ _ _ c.args.key c.args.value c.args.link (record { sound = c.self.invariant; is = c.self.view_is }) c.requires.free at c.remove.ensures.links c.first_after_remove-self-inside.ensures c.put.ensures.places).sound

pub returns-clause-map : goal.returns-clause-map
returns-clause-map g c =
    let at = place_at-free _ _ _ _ _ c.args.key (record { sound = c.self.invariant; is = c.self.view_is }) c.args.link c.requires.free c.requires.link in
    (Shows-slot_table_fill _ _ _ _ _ _ _ _ c.args.key c.args.value c.args.link (record { sound = c.self.invariant; is = c.self.view_is }) c.requires.free at c.remove.ensures.links c.first_after_remove-self-inside.ensures c.put.ensures.places).is

pub returns-clause-count : goal.returns-clause-count
returns-clause-count g c = ap held_count (returns-clause-map g c) ∙ held_count-slot_table_fill c.args.self.now c.args.key c.args.value c.requires.free

pub returns-clause-room : goal.returns-clause-room
returns-clause-room g c =
    ap (λ (s : SlotTableState g.row.T.Denot). length s.free + 1) (returns-clause-map g c)
    ∙ free-slot_table_fill c.args.self.now c.args.key c.args.value (IsWellFormed-shown _ _ _ _ _ (record { sound = c.self.invariant; is = c.self.view_is })) c.requires.free
