use Rattle.std.proofs.Common.{sym, subst}
use Rattle.std.specs.Vec.{vec_allocator}
use Rattle.ix_tables.specs.Places.{IsHeldAt}
use Rattle.ix_tables.proofs.RawParts.{parts_lent}
use Rattle.ix_tables.proofs.cells.raw_slots.RawSlots.get_mut.Goals as goal

pub invariant_of-self-lent : goal.invariant_of-self-lent
invariant_of-self-lent g c w =
    let s = c.self.inside in
    let held = subst (λ places. IsHeldAt places c.args.i) (sym c.self.view_is) c.requires in
    parts_lent s.ptr s.row s.grant s.held.items (vec_allocator s.held) c.self.invariant c.args.i w held
