use Rattle.std.proofs.Common.{refl, ap, arith, ◌∙◌}
use Rattle.std.proofs.lemmas.Result.{on_err_weaker}
use Rattle.std.proofs.lemmas.Iterator.{YieldsList-from_slice}
use Rattle.std.proofs.lemmas.Iterator.Consumers.{YieldsList-at, YieldsList-from_copied, YieldsList-turn}
use Rattle.std.specs.Slice.Iter.{iter_rest}
use Rattle.examples.proofs.iteration.stored_inline.Goals as goal

pub returns-clause-full : goal.returns-clause-full
returns-clause-full g c = on_err_weaker c.try_from_iter.result (λ more.
    let road = YieldsList-from_slice c.args.samples.now.items (ap iter_rest c.copied.ensures.source ∙ c.iter.ensures.value.rest) in
    let turn = YieldsList-turn (YieldsList-at more.4 (YieldsList-from_copied road)) more.2 more.5.0 more.5.1 _ more.1 more.3 refl more.5.2 in
    omega (arith, turn.0, more.6)) c.try_from_iter.ensures.full
