use Rattle.std.proofs.Common.{◌≡◌, ◌-◌, [], length, drop, take}
use Rattle.std.specs.List.Retain.{DiffersFromLast}
use Rattle.ix_vector.proofs.Kept.{AreInFront}
use Rattle.ix_vector.proofs.vector.retain.unlike_in_front.Given as goal

-- the first items were compared
abbrev pub invariant-loop-i : goal.invariant-loop-i
invariant-loop-i g l = record {
  len : length l.items ≡ length l.initial.items;
  front : AreInFront (DiffersFromLast g.T.PartialEq.eq) l.initial.items [] l.i l.items l.kept (drop (l.kept - 1) (take l.kept l.items));
}
