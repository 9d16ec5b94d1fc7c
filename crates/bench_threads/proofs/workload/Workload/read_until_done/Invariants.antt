use Rattle.std.proofs.Common.{◌≡◌}
use Rattle.bench_threads.proofs.workload.Workload.read_until_done.Given as goal

abbrev pub invariant-loop-tries : goal.invariant-loop-tries
invariant-loop-tries g l = l.reader.cell ≡ l.initial.reader.cell
