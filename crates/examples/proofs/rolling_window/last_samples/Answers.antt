use Rattle.std.proofs.Common.{refl}
use Rattle.ix_queue.proofs.Windows.{window_step}
use Rattle.examples.proofs.rolling_window.last_samples.Goals as goal

pub loop-sample-preserved : goal.loop-sample-preserved
loop-sample-preserved g c =
    let at = c.loop-sample.invariant in
    rw (c.push_with_overflow.ensures.queue, at.0, at.1) (window_step g.row.SIZE c.args.samples.now c.loop-sample.sample-index c.loop-sample-test.true, refl)
