use Rattle.std.proofs.Common.{sym, ◌∙◌}
use Rattle.std.proofs.lemmas.Bool.{both_ways}
use Rattle.ix_atomic.proofs.LegalWrites.{AreWrites-steps_pass, are_in_turn-writes}
use Rattle.ix_atomic.proofs.Versions.{HasVersion-steps_pass, versions_agree-each}
use Rattle.ix_atomic.proofs.byte_atomic.steps.versioned.replay_versioned.Goals as goal
use Rattle.ix_atomic.proofs.byte_atomic.steps.versioned.replay_versioned.Goals.{then-writes_are_in_turn, else-writes_are_in_turn}

pub returns-then-versions_are_right : goal.returns-then-versions_are_right
returns-then-versions_are_right c = elim c.if-writes_are_in_turn.branch [
  | then-writes_are_in_turn w ↦ (
    λ yes. record {
      writes = AreWrites-steps_pass _ _ (sym c.writes_are_in_turn.ensures ∙ w.if-writes_are_in_turn.true);
      versions = HasVersion-steps_pass _ (sym w.versions_are_right.ensures ∙ (sym w.value-is ∙ c.if-versions_are_right.true));
      bytes = c.acts_are_legal.ensures.0 yes;
    },
    λ legal. c.acts_are_legal.ensures.1 legal.bytes,
  )
  | else-writes_are_in_turn w ↦ absurd (both_ways _ (w.value-is ∙ w.if-writes_are_in_turn.false) c.if-versions_are_right.true)
]

pub returns-else-versions_are_right : goal.returns-else-versions_are_right
returns-else-versions_are_right c = (
  λ yes. absurd (both_ways _ c.if-versions_are_right.false yes),
  λ legal. elim c.if-writes_are_in_turn.branch [
    | then-writes_are_in_turn w ↦ w.value-is ∙ (w.versions_are_right.ensures ∙ versions_agree-each _ legal.versions)
    | else-writes_are_in_turn w ↦ absurd (both_ways _ w.if-writes_are_in_turn.false (c.writes_are_in_turn.ensures ∙ are_in_turn-writes _ _ legal.writes.0 legal.writes.1))
  ],
)
