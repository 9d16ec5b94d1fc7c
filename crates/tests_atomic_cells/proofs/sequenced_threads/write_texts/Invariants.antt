use Rattle.std.proofs.Common.{◌≡◌}
use Rattle.tests_atomic_cells.proofs.sequenced_threads.write_texts.Given as goal

abbrev pub invariant-loop-number : goal.invariant-loop-number
invariant-loop-number l = l.writer.cell ≡ l.initial.writer.cell
