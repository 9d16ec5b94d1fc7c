use Rattle.std.proofs.Common.{ℕ, List, map}
use Rattle.ix_slotmap.specs.Generations.{SlotKey}
use Rattle.ix_run.specs.ReplyTexts.{key_entry_text}
use Rattle.ix_run.proofs.Listings.{YieldsTexts-first, items_text-map}
use Rattle.ix_run.proofs.run.containers.slotmap.MetaSlotMapU64MaybeMovedU64Served.show.Goals as goal

pub returns : goal.returns
returns g c =
    let shown = c.append_items.ensures (λ (entries : List (SlotKey × ℕ)). map key_entry_text entries) (YieldsTexts-first (λ entry. (entry.0, entry.1.now)) (λ entries. entries) key_entry_text) in
    rw (items_text-map key_entry_text c.iter.result, c.iter.ensures.entries) at shown
