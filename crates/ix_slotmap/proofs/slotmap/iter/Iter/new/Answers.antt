use Rattle.std.proofs.Common.{◌∙◌}
use Rattle.ix_slottable.proofs.KeyRanges.{IsKeyRange-whole}
use Rattle.ix_slotmap.proofs.SlotMapEntries.{count_by-held}
use Rattle.ix_slotmap.proofs.HeldRanges.{held_of, held_of-append}
use Rattle.ix_slotmap.proofs.slotmap.iter.Iter.new.Goals as goal

pub invariant_of-result : goal.invariant_of-result
invariant_of-result g c =
    let s = c.args.map.now in
    IsKeyRange-whole (held_of s) (held_of-append s) s.slots.values _ _ c.capacity.ensures.value (c.len.ensures.value ∙ count_by-held s 0 s.slots.values)
