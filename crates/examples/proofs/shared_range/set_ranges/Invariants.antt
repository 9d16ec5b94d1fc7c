use Rattle.std.proofs.Common.{◌≡◌}
use Rattle.examples.proofs.shared_range.set_ranges.Given as goal

abbrev pub invariant-loop-i : goal.invariant-loop-i
invariant-loop-i l = (l.seat.cell ≡ l.initial.seat.cell) × (l.seat.share ≡ l.initial.seat.share)
