use Rattle.std.proofs.Common.{◌≡◌}
use Rattle.bench_threads.proofs.workload.Workload.write_all.Given as goal

abbrev pub invariant-loop-i : goal.invariant-loop-i
invariant-loop-i g l = l.writer.cell ≡ l.initial.writer.cell
