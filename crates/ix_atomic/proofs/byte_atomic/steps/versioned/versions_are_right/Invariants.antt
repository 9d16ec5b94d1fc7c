use Rattle.std.proofs.Common.{◌≡◌, ◌≤◌, drop}
use Rattle.ix_atomic.specs.inner.StepTests.{versions_agree}
use Rattle.ix_atomic.proofs.byte_atomic.steps.versioned.versions_are_right.Given as goal

abbrev pub invariant-loop-step : goal.invariant-loop-step
invariant-loop-step l = record {
  -- what the test over the rest returns is what the whole test does
  rest : versions_agree l.version (drop l.step-index l.steps) ≡ versions_agree 0 l.steps;
  -- at most one a step, so the version does not overflow
  bound : l.version ≤ l.step-index;
}
