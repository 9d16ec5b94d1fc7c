use Rattle.std.proofs.Common.{◌≡◌}
use Rattle.examples.proofs.shared_range.read_ranges.Given as goal

abbrev pub invariant-loop : goal.invariant-loop
invariant-loop l = l.reader.cell ≡ l.initial.reader.cell
