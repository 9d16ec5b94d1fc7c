use Rattle.std.proofs.Common.{◌≡◌}
use Rattle.bench_kernels.proofs.sequenced_cells.read_each.Given as goal

abbrev pub invariant-loop-i : goal.invariant-loop-i
invariant-loop-i g l = l.reader.cell ≡ l.initial.reader.cell
