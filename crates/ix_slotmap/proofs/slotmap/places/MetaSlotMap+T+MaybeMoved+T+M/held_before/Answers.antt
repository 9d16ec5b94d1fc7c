use Rattle.std.proofs.Common.{◌-◌, ◌<◌, length, arith}
use Rattle.ix_slottable.proofs.KeyRanges.{down_first, down}
use Rattle.ix_slotmap.proofs.HeldRanges.{held_of, held_of-append, some_before, held_within-none}
use Rattle.ix_slotmap.proofs.slotmap.places.MetaSlotMap+T+MaybeMoved+T+M.held_before.Goals as goal

pub loop-touches-init : goal.loop-touches-init
loop-touches-init g c =
    let s = c.args.self.now in
    let all = c.requires.within in
    let some = some_before s c.args.end c.requires.some in
    let within : c.args.end - 1 < length s.slots.values = omega (arith, all, some) in
    let without = c.if-has_value.false in
    let passed = held_within-none s _ within (λ some. (let here = c.has_value.ensures.value.1 some in absurd (cc))) in
    down_first (held_of s) (held_of-append s) s.slots.values c.args.end c.requires.within passed c.requires.some

pub loop-touches-preserved : goal.loop-touches-preserved
loop-touches-preserved g c =
    let s = c.args.self.now in
    let walked = c.loop-touches.invariant in
    let low = walked.0 in
    let all = c.requires.within in
    let within : c.loop-touches.place < length s.slots.values = omega (arith, low, all) in
    let without = c.loop-touches-test.true in
    let passed = held_within-none s _ within (λ some. (let here = c.has_value-in-loop-touches.ensures.value.1 some in absurd (cc))) in
    down (held_of s) (held_of-append s) s.slots.values _ _ low within passed c.requires.some walked.1
