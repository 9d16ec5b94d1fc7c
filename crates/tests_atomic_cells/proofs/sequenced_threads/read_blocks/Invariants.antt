use Rattle.std.proofs.Common.{◌≡◌}
use Rattle.tests_atomic_cells.proofs.sequenced_threads.read_blocks.Given as goal

abbrev pub invariant-loop : goal.invariant-loop
invariant-loop g l = l.reader.cell ≡ l.initial.reader.cell
