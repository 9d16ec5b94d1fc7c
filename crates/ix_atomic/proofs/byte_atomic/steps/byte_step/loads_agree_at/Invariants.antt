use Rattle.std.proofs.Common.{◌≡◌, drop}
use Rattle.std.specs.List.{filter_map}
use Rattle.ix_atomic.specs.inner.StepTests.{loads_agree}
use Rattle.ix_atomic.proofs.byte_atomic.steps.byte_step.loads_agree_at.Given as goal

-- what the test over the rest returns is what the whole test does
abbrev pub invariant-loop-step : goal.invariant-loop-step
invariant-loop-step g l = loads_agree l.place l.latest (filter_map g.S.ByteStep.act_of (drop l.step-index l.steps)) ≡ loads_agree l.place l.first (filter_map g.S.ByteStep.act_of l.steps)
