use Rattle.ix_slottable.specs.SlotTableState.{entries_from}
use Rattle.ix_slottable.proofs.Entries.{count_by-is_some}
use Rattle.ix_slottable.proofs.SlotTableCalls.{entries_from-append}
use Rattle.ix_slottable.proofs.KeyRanges.{IsKeyRange-whole}
use Rattle.ix_slottable.proofs.slottable.into_iter.MetaSlotTableIntoIterator.into_iter.Goals as goal

pub invariant_of-result : goal.invariant_of-result
invariant_of-result g c =
    let values = c.args.self.values in
    IsKeyRange-whole entries_from entries_from-append values _ _ c.capacity-end.ensures.value (count_by-is_some 0 values)
