use Rattle.std.proofs.Common.{◌≡◌, ◌≤◌, length}
use Rattle.ix_atomic.specs.Writers.{AreOwn}
use Rattle.tests_examples.proofs.cell_tests.raise_each.Given as goal

abbrev pub invariant-loop-i : goal.invariant-loop-i
invariant-loop-i l = (l.writer.cell ≡ l.initial.writer.cell) × AreOwn l.writer × (length l.writer.places ≡ l.raises) × (l.raises ≤ l.i)
