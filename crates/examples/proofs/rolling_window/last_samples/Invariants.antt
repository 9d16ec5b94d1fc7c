use Rattle.std.proofs.Common.{◌≡◌, ◌-◌, drop, take}
use Rattle.examples.proofs.rolling_window.last_samples.Given as goal

abbrev pub invariant-loop-sample : goal.invariant-loop-sample
invariant-loop-sample g l = (l.window.items ≡ drop (l.sample-index - g.row.SIZE) (take l.sample-index l.samples)) × (l.window.capacity ≡ g.row.SIZE)
