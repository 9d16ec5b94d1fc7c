use Rattle.ix_slottable.specs.SlotTableState.{entries_from}
use Rattle.ix_slottable.proofs.SlotTableCalls.{entries_from-append}
use Rattle.ix_slottable.proofs.KeyRanges.{down_first, down, no_entry_of}
use Rattle.ix_slottable.proofs.slottable.meta_slot_table.MetaSlotTable.held_before.Goals as goal

pub loop-touches-init : goal.loop-touches-init
loop-touches-init g c =
    let values = c.args.self.now.values in
    let passed = no_entry_of values _ (c.is_free.ensures.free c.if-not-is_free.false) in
    down_first entries_from entries_from-append values c.args.end c.requires.within passed c.requires.some

pub loop-touches-preserved : goal.loop-touches-preserved
loop-touches-preserved g c =
    let values = c.args.self.now.values in
    let free = c.is_free-in-loop-touches.ensures.free c.loop-touches-test.true in
    let passed = no_entry_of values _ free in
    let walked = c.loop-touches.invariant in
    down entries_from entries_from-append values _ _ walked.0 free.0 passed c.requires.some walked.1
