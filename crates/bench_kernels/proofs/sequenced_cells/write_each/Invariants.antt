use Rattle.std.proofs.Common.{◌≡◌}
use Rattle.bench_kernels.proofs.sequenced_cells.write_each.Given as goal

abbrev pub invariant-loop-i : goal.invariant-loop-i
invariant-loop-i g l = l.writer.cell ≡ l.initial.writer.cell
