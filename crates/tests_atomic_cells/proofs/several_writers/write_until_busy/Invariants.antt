use Rattle.std.proofs.Common.{◌≡◌}
use Rattle.tests_atomic_cells.proofs.several_writers.write_until_busy.Given as goal

abbrev pub invariant-loop : goal.invariant-loop
invariant-loop l = l.writer.cell ≡ l.initial.writer.cell
