use Rattle.std.proofs.Common.{◌≤◌, ◌*◌}
use Rattle.caller_proofs.proofs.vectors.total_of_slice.Given as goal

abbrev pub invariant-loop-sample : goal.invariant-loop-sample
invariant-loop-sample l = l.total ≤ 4294967295 * l.sample-index
