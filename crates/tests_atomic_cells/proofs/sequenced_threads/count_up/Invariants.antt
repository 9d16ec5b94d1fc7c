use Rattle.std.proofs.Common.{◌≡◌}
use Rattle.tests_atomic_cells.proofs.sequenced_threads.count_up.Given as goal

abbrev pub invariant-loop : goal.invariant-loop
invariant-loop l = l.writer.cell ≡ l.initial.writer.cell
