use Rattle.std.proofs.Common.{◌≤◌, ◌+◌, ◌*◌, length}
use Rattle.std.specs.Slice.Iter.{iter_rest}
use Rattle.caller_proofs.proofs.vectors.total.Given as goal

abbrev pub invariant-loop-sample : goal.invariant-loop-sample
invariant-loop-sample l = l.total + 4294967295 * length (iter_rest l.sample-iterator) ≤ 4294967295 * 4
