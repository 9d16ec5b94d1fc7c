use Rattle.std.proofs.Common.{◌≡◌}
use Rattle.ix_atomic.specs.Writers.{AreOwn}
use Rattle.tests_examples.proofs.cell_tests.publish_at_last.Given as goal

abbrev pub invariant-loop : goal.invariant-loop
invariant-loop l = (l.seat.cell ≡ l.initial.seat.cell) × AreOwn l.seat
