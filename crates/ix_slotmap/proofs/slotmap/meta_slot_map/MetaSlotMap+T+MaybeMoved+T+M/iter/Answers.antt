use Rattle.std.proofs.Common.{◌≡◌, None, sym, subst, ◌∙◌}
use Rattle.std.specs.Map.{lookup}
use Rattle.ix_slotmap.specs.Generations.{slot_key_eq, KeysRise, ListsExactly}
use Rattle.ix_slotmap.proofs.Generations.{slot_map_value-dead}
use Rattle.ix_slotmap.proofs.SlotMapEntries.{KeysRise-slot_map_entries, ListsExactly-slot_map_entries}
use Rattle.ix_slotmap.proofs.slotmap.meta_slot_map.MetaSlotMap+T+MaybeMoved+T+M.iter.Goals as goal

pub returns-clause-rising : goal.returns-clause-rising
returns-clause-rising g c = subst KeysRise (sym c.new.ensures.entries) (KeysRise-slot_map_entries c.args.self.now)

pub returns-clause-exactly : goal.returns-clause-exactly
returns-clause-exactly g c = subst (λ items. ListsExactly items c.args.self.now) (sym c.new.ensures.entries) (ListsExactly-slot_map_entries c.args.self.now)

pub returns-clause-dead : goal.returns-clause-dead
returns-clause-dead g c = λ key dead.
    subst (λ items. lookup (slot_key_eq key) items ≡ None) (sym c.new.ensures.entries)
    (ListsExactly-slot_map_entries c.args.self.now key ∙ slot_map_value-dead c.args.self.now key dead)
