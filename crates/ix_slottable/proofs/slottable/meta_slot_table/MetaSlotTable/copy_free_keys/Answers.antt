use Rattle.std.proofs.Common.{◌↔◌, List, Option, length, sym, ap, ◌∙◌, subst}
use Rattle.ix_slottable.specs.SlotTableState.{SlotTableState, IsHeld}
use Rattle.ix_slottable.specs.inner.FreeList.{slots_of, Represents}
use Rattle.ix_slottable.specs.declared.slottable.link.Link.{Link}
use Rattle.ix_slottable.proofs.SlotTables.{IsLinkTable-shown}
use Rattle.ix_slottable.proofs.SlotTableCopies.{Represents-same_keys}
use Rattle.ix_slottable.proofs.slottable.meta_slot_table.MetaSlotTable.copy_free_keys.Goals as goal

pub copy_links-requires-clause-links : goal.copy_links-requires-clause-links
copy_links-requires-clause-links g c = IsLinkTable-shown _ _ _ _ _ (record { sound = c.self.invariant; is = c.self.view_is })

pub copy_links-requires-clause-others : goal.copy_links-requires-clause-others
copy_links-requires-clause-others g c = IsLinkTable-shown _ _ _ _ _ (record { sound = c.other.invariant; is = c.other.view_is })

pub invariant_of-self : goal.invariant_of-self
invariant_of-self g c =
    let values = g.M.Items.Table.places c.self.inside.values in
    let links = g.N.Links.Table.places c.other.inside.links in
    let other = slots_of (g.N.Items.Table.places c.other.inside.values) links c.other.inside.first in
    let long = ap (λ (s : SlotTableState g.row.T.Denot). length s.values) c.self.view_is ∙ c.requires.capacity ∙ sym (ap (λ (s : SlotTableState g.row.T.Denot). length s.values) c.other.view_is) in
    subst (λ (ls : List (Option Link)). Represents (slots_of values ls c.other.inside.first) ls c.other.inside.first c.other.inside.len) (sym c.copy_links.ensures)
    (Represents-same_keys other values links c.other.inside.first c.other.inside.len c.other.invariant long
    (λ key. subst (λ (s : SlotTableState g.row.T.Denot). IsHeld s key ↔ IsHeld other key) (sym c.self.view_is)
    (subst (λ (s : SlotTableState g.row.T.Denot). IsHeld c.args.self.now key ↔ IsHeld s key) (sym c.other.view_is) (c.requires.keys key))))
