use Rattle.std.proofs.Common.{◌≡◌}
use Rattle.tests_atomic_cells.proofs.several_writers.write_often.Given as goal

abbrev pub invariant-loop : goal.invariant-loop
invariant-loop g l = l.writer.cell ≡ l.initial.writer.cell
