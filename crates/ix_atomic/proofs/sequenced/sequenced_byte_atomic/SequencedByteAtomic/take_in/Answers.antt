use Rattle.std.proofs.Common.{rules, ap, ◌∙◌}
use Rattle.ix_atomic.specs.inner.SequencedRule.{parity}
use Rattle.ix_atomic.proofs.SequencedKeeps.{merge, load_version}
use Rattle.ix_atomic.proofs.sequenced.sequenced_byte_atomic.SequencedByteAtomic.take_in.Goals as goal

pub join_seat-requires : goal.join_seat-requires
join_seat-requires g c = (search rules, search rules, search rules, search rules, merge _ _ _ _ _ c.requires.between_calls.0 c.requires.between_calls.1)

pub load-requires : goal.load-requires
load-requires g c = (search rules, search rules, load_version _ _ _ _ (ap (λ me. parity me.0.stage) c.join_seat.ensures.2 ∙ c.requires.between_calls.0))
