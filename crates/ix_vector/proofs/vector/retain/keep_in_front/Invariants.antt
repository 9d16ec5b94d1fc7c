use Rattle.std.proofs.Common.{◌≡◌, length, drop}
use Rattle.std.specs.Fn.{CalledAt}
use Rattle.ix_tables.specs.Calls.{IsCallableOnEach}
use Rattle.ix_vector.proofs.Kept.{AreInFront}
use Rattle.ix_vector.proofs.vector.retain.keep_in_front.Given as goal

-- the closure was called with the first items, and may be called with the others
abbrev pub invariant-loop-i : goal.invariant-loop-i
invariant-loop-i g l = record {
  len : length l.items ≡ length l.initial.items;
  callable : IsCallableOnEach g.F.FnMut (drop l.i l.initial.items) l.f;
  front : AreInFront (CalledAt g.F.FnMut) l.initial.items l.initial.f l.i l.items l.kept l.f;
}
