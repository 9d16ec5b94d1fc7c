use Rattle.std.proofs.Common.{◌≡◌, drop}
use Rattle.std.specs.List.{filter_map}
use Rattle.ix_atomic.specs.inner.StepTests.{all_within}
use Rattle.ix_atomic.proofs.byte_atomic.steps.byte_step.places_are_within.Given as goal

-- what the test over the rest returns is what the whole test does
abbrev pub invariant-loop-step : goal.invariant-loop-step
invariant-loop-step g l = all_within l.len (filter_map g.S.ByteStep.act_of (drop l.step-index l.steps)) ≡ all_within l.len (filter_map g.S.ByteStep.act_of l.steps)
