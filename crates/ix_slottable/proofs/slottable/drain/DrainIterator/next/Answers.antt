use Rattle.std.proofs.Common.{◌+◌, ◌∷◌, drop, Some, refl, sym, ap, ◌∙◌, subst}
use Rattle.ix_slottable.specs.SlotTableState.{entries_from}
use Rattle.ix_slottable.specs.SlotTableSteps.{SlotTableRemove}
use Rattle.ix_slottable.proofs.SlotTableDrains.{next_item, slot_table_clear-next}
use Rattle.ix_slottable.proofs.slottable.drain.DrainIterator.next.Goals as goal

pub returns-clause-steps : goal.returns-clause-steps
returns-clause-steps g c =
    let drain = c.args.self.now in
    let s = drain.map.now in
    let new = c.remove_unchecked.new.self in
    let number = c.held_from-number.result in
    let value = c.remove_unchecked.result in
    let rest = entries_from (number + 1) (drop (number + 1) new.values) in
    let step = subst (λ n. SlotTableRemove s n new (Some value)) c.new-key.ensures c.remove_unchecked.ensures.step in (
      next_item s new drain.key number value c.held_from-number.ensures.entries step ∙ ap (λ n. (n, value) ∷ rest) (sym c.new-key.ensures),
      (refl, slot_table_clear-next s new drain.key number value drain.counted c.held_from-number.ensures.entries step),
    )
