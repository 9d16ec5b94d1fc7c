use Rattle.std.proofs.Common.{◌≡◌, ◌*◌, take}
use Rattle.ix_atomic.specs.History.{data_words}
use Rattle.ix_atomic.specs.inner.SequencedSteps.{seated_stage}
use Rattle.ix_atomic.specs.declared.sequenced.rule.Stage.TheVariants.{Writing}
use Rattle.ix_atomic.proofs.sequenced.sequenced_byte_atomic.SequencedByteAtomic.store_bytes.Given as goal

abbrev pub invariant-loop-i : goal.invariant-loop-i
invariant-loop-i g l = (l.seat.table_id ≡ l.initial.seat.table_id) × (l.seat.id ≡ l.initial.seat.id) × (l.seat.me ≡ seated_stage (data_words l.i) (Writing (take (8 * l.i) l.bytes)) l.initial.seat.me)
