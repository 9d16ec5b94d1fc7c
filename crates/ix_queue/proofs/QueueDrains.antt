-- What stays while a queue is drained.
use Rattle.std.proofs.Common.{[], ◌∷◌, refl, subst, ◌∙◌}
use Rattle.ix_queue.specs.QueueDrain.{DrainKeeps, DrainKeepsAlong}
use Rattle.ix_queue.specs.declared.queue.drain.Drain.{Drain}

module _ {T S : Type 0} where
  pub Drain-keeps_along : (drain : Drain T S) → DrainKeepsAlong drain
  Drain-keeps_along drain [] later run = subst (DrainKeeps drain) run (refl, refl)
  Drain-keeps_along drain (item ∷ items) later (next, step, run) =
      let rest = Drain-keeps_along next items later run in
      (rest.0 ∙ step.1.0, rest.1 ∙ step.1.1)
