use Rattle.std.proofs.Common.{◌≡◌}
use Rattle.tests_examples.proofs.cell_tests.never_falls.Given as goal

abbrev pub invariant-loop : goal.invariant-loop
invariant-loop l = l.reader.cell ≡ l.initial.reader.cell
