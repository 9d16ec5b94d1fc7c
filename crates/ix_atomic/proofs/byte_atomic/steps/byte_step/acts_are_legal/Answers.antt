use Rattle.std.proofs.Common.{sym, ◌∙◌}
use Rattle.std.proofs.lemmas.Bool.{both_ways}
use Rattle.ix_atomic.proofs.LegalActs.{AreLegal-passes, all_within-legal, loads_agree-legal}
use Rattle.ix_atomic.proofs.byte_atomic.steps.byte_step.acts_are_legal.Goals as goal

pub returns-then-places_are_within : goal.returns-then-places_are_within
returns-then-places_are_within g c = (
  λ yes. AreLegal-passes c.args.first.now _ (sym c.places_are_within.ensures ∙ c.if-places_are_within.true) (c.all_loads_agree.ensures.0 yes),
  λ legal. c.all_loads_agree.ensures.1 (λ place below. loads_agree-legal c.args.first.now _ place below legal),
)

pub returns-else-places_are_within : goal.returns-else-places_are_within
returns-else-places_are_within g c = (
  λ yes. absurd (both_ways _ c.if-places_are_within.false yes),
  λ legal. c.places_are_within.ensures ∙ all_within-legal c.args.first.now _ legal,
)
