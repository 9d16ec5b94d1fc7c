use Rattle.std.proofs.Common.{Some}
use Rattle.std.specs.Vec.{vec_allocator}
use Rattle.ix_tables.proofs.RawParts.{grant_made, parts_made}
use Rattle.ix_tables.proofs.cells.raw_slots.RawSlots.new.Goals as goal

pub invariant_of-result : goal.invariant_of-result
invariant_of-result g c =
    let made = c.in_ok-ptr in
    let held = c.in_ok-held.held in
    let alloc = vec_allocator held in
    let block = grant_made made.ptr made.row made.grant c.args.len c.allocator.result.now alloc made.ensures.row made.ensures.grant c.allocator.ensures in
    parts_made made.ptr made.row (Some made.grant) held.items alloc c.args.len made.ensures.row c.in_ok-held.ensures.value block
