use Rattle.std.proofs.Common.{◌≡◌}
use Rattle.tests_atomic_cells.proofs.sequenced_threads.write_blocks.Given as goal

abbrev pub invariant-loop-number : goal.invariant-loop-number
invariant-loop-number g l = l.writer.cell ≡ l.initial.writer.cell
