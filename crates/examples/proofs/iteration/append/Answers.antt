use Rattle.std.proofs.Common.{refl, arith}
use Rattle.std.proofs.lemmas.Result.{on_err_weaker}
use Rattle.std.proofs.lemmas.Iterator.Consumers.{YieldsList-from_first, YieldsList-turn}
use Rattle.examples.proofs.iteration.append.Goals as goal

pub returns-clause-full : goal.returns-clause-full
returns-clause-full g c = on_err_weaker c.extend_from_iter.result (λ more.
    let road = YieldsList-from_first (λ x. x) (λ rest. rest) c.args.more more.4.0 in
    let turn = YieldsList-turn road more.2 more.5.0 more.5.1 _ more.1 more.3 refl more.5.2 in
    omega (arith, turn.0, more.6)) c.extend_from_iter.ensures.full
