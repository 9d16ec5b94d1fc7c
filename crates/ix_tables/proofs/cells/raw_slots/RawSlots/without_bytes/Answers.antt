use Rattle.std.proofs.Common.{None}
use Rattle.std.specs.Vec.{vec_allocator}
use Rattle.ix_tables.proofs.RawParts.{parts_made}
use Rattle.ix_tables.proofs.cells.raw_slots.RawSlots.without_bytes.Goals as goal

pub invariant_of-result : goal.invariant_of-result
invariant_of-result g c =
    let made = c.without_bytes-row.result in
    let held = c.in_ok-held.held in
    parts_made made.0 made.1 None held.items (vec_allocator held) c.args.len c.without_bytes-row.ensures.row c.in_ok-held.ensures.value c.without_bytes-row.ensures.bytes
