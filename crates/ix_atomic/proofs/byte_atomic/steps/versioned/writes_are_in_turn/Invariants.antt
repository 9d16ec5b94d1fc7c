use Rattle.std.proofs.Common.{◌≡◌, drop, None}
use Rattle.ix_atomic.specs.inner.StepTests.{are_in_turn}
use Rattle.ix_atomic.proofs.byte_atomic.steps.versioned.writes_are_in_turn.Given as goal

-- what the test over the rest returns is what the whole test does
abbrev pub invariant-loop-step : goal.invariant-loop-step
invariant-loop-step l = are_in_turn l.len l.stored (drop l.step-index l.steps) ≡ are_in_turn l.len None l.steps
