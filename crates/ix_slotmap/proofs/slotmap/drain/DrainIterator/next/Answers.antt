use Rattle.std.proofs.Common.{◌+◌, ◌∷◌, drop, refl, sym, ap, ◌∙◌}
use Rattle.ix_slottable.specs.SlotTableState.{entries_from}
use Rattle.ix_slotmap.specs.Generations.{held_entries}
use Rattle.ix_slotmap.proofs.SlotMapEntries.{count_by-held}
use Rattle.ix_slotmap.proofs.SlotMapDrains.{next_key, slot_map_clear-next, counted-next}
use Rattle.ix_slotmap.proofs.slotmap.drain.DrainIterator.next.Goals as goal

pub invariant_of-self-2 : goal.invariant_of-self-2
invariant_of-self-2 g c =
    let drain = c.args.self.now in
    let s = drain.map.now in
    let new = c.remove_held-value.new.self in
    let removed = c.remove_held-value.ensures in record {
      counted = counted-next s new drain.index c.held_from-index.result c.remove_held-value.result c.held_from-index.ensures.entries (sym removed.value) removed.step drain.counted (count_by-held new 0 new.slots.values) removed.gone;
    }

pub returns-clause-steps : goal.returns-clause-steps
returns-clause-steps g c =
    let drain = c.args.self.now in
    let s = drain.map.now in
    let new = c.remove_held-value.new.self in
    let number = c.held_from-index.result in
    let value = c.remove_held-value.result in
    let removed = c.remove_held-value.ensures in
    let rest = held_entries new (entries_from (number + 1) (drop (number + 1) new.slots.values)) in (
      next_key s new drain.index number value c.held_from-index.ensures.entries (sym removed.value) removed.step ∙ ap (λ key. (key, value) ∷ rest) (sym c.key_of-key.ensures.value),
      (refl, slot_map_clear-next s new drain.index number value c.held_from-index.ensures.entries (sym removed.value) removed.step drain.counted removed.gone),
    )
