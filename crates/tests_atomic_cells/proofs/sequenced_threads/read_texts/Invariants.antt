use Rattle.std.proofs.Common.{◌≡◌}
use Rattle.tests_atomic_cells.proofs.sequenced_threads.read_texts.Given as goal

abbrev pub invariant-loop : goal.invariant-loop
invariant-loop l = l.reader.cell ≡ l.initial.reader.cell
