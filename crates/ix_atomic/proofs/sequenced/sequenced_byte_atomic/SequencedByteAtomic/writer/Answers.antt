use Rattle.std.proofs.Common.{rules, ◌<◌, List, ℕ, length, ap, sym, ◌∙◌, subst}
use Rattle.ix_atomic.specs.inner.SequencedRule.{parity}
use Rattle.ix_atomic.proofs.SequencedKeeps.{new_writer}
use Rattle.ix_atomic.proofs.Shares.{halved-some}
use Rattle.ix_atomic.proofs.sequenced.sequenced_byte_atomic.SequencedByteAtomic.writer.Goals as goal

pub split_seat-writer-requires : goal.split_seat-writer-requires
split_seat-writer-requires g c = (search rules, search rules, new_writer _ _ _ c.seat.invariant.1)

pub invariant_of-result : goal.invariant_of-result
invariant_of-result g c = let split = c.split_seat-writer.ensures in (
  ap (λ me. me.1) split.4,
  ap (λ me. parity me.0.stage) split.4,
  subst (λ (share : List ℕ). 0 < length share) (sym (ap (λ me. me.0.share) split.4)) (halved-some _ c.seat.invariant.2),
)

pub invariant_of-seat : goal.invariant_of-seat
invariant_of-seat g c = let split = c.split_seat-writer.ensures in (
  ap (λ me. me.1) split.2 ∙ c.seat.invariant.0,
  ap (λ me. parity me.0.stage) split.2 ∙ c.seat.invariant.1,
  subst (λ (share : List ℕ). 0 < length share) (sym (ap (λ me. me.0.share) split.2)) (halved-some _ c.seat.invariant.2),
)
