use Rattle.std.proofs.Common.{map, Some, refl, ap, subst}
use Rattle.ix_slottable.specs.SlotTableSteps.{SlotTableRemove}
use Rattle.ix_flatmap.specs.MapState.{map_item}
use Rattle.ix_slottable.proofs.SlotTableDrains.{next_item, slot_table_clear-next}
use Rattle.ix_flatmap.proofs.map.drain.DrainIterator.next.Goals as goal

pub returns-clause-steps : goal.returns-clause-steps
returns-clause-steps g c =
    let drain = c.args.self.now in
    let s = drain.map.now in
    let new = c.remove_at-pair.new.self in
    let number = c.held_from-number.result in
    let pair = c.remove_at-pair.result in
    let step = subst (λ n. SlotTableRemove s n new (Some pair)) c.new.ensures c.remove_at-pair.ensures.step in (
      ap (map map_item) (next_item s new drain.place number pair c.held_from-number.ensures.entries step),
      (refl, slot_table_clear-next s new drain.place number pair drain.counted c.held_from-number.ensures.entries step),
    )
