use Rattle.std.proofs.Common.{None}
use Rattle.std.specs.Vec.{vec_allocator}
use Rattle.ix_tables.proofs.RawParts.{parts_set}
use Rattle.ix_tables.proofs.cells.raw_slots.RawSlots.take.Goals as goal

pub invariant_of-self : goal.invariant_of-self
invariant_of-self g c =
    let s = c.self.inside in
    parts_set s.ptr s.row s.grant s.held.items (vec_allocator s.held) c.self.invariant c.args.i None c.read.new.self c.read.ensures.row
