-- What stays while a map is drained.
use Rattle.std.proofs.Common.{List, [], ◌∷◌, refl, subst, ◌∙◌}
use Rattle.std.specs.Borrow.{GName}
use Rattle.ix_slottable.specs.Draining.{DrainingKeeps, DrainingKeepsAlong}

module _ {D X S : Type 0} (items : D → List X) (lender : D → GName) (left : D → S) where
  pub Draining-keeps_along : (drain : D) → DrainingKeepsAlong items lender left drain
  Draining-keeps_along drain [] later run = subst (DrainingKeeps items lender left drain) run (refl, refl)
  Draining-keeps_along drain (item ∷ taken) later (next, step, run) =
      let rest = Draining-keeps_along next taken later run in
      (rest.0 ∙ step.1.0, rest.1 ∙ step.1.1)
