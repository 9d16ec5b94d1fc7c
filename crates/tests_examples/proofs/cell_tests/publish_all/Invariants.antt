use Rattle.std.proofs.Common.{◌≡◌}
use Rattle.ix_atomic.specs.Writers.{AreOwn}
use Rattle.tests_examples.proofs.cell_tests.publish_all.Given as goal

abbrev pub invariant-loop-i : goal.invariant-loop-i
invariant-loop-i l = (l.seat.cell ≡ l.initial.seat.cell) × AreOwn l.seat
