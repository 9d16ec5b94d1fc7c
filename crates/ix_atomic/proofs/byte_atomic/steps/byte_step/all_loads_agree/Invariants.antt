use Rattle.std.proofs.Common.{◌≡◌, ◌<◌, ℕ, true, slice_index}
use Rattle.std.specs.List.{filter_map}
use Rattle.ix_atomic.specs.inner.StepTests.{loads_agree}
use Rattle.ix_atomic.proofs.byte_atomic.steps.byte_step.all_loads_agree.Given as goal

-- the loads at the places so far agree
abbrev pub invariant-loop-place : goal.invariant-loop-place
invariant-loop-place g l = (k : ℕ) → k < l.place → loads_agree k (slice_index l.first k) (filter_map g.S.ByteStep.act_of l.steps) ≡ true
