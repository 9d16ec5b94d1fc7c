use Rattle.std.proofs.Common.{rules, arith, ◌*◌, ◌<◌, ap, ◌∙◌}
use Rattle.ix_atomic.specs.inner.SequencedRule.{Encodes}
use Rattle.ix_atomic.proofs.Encodes.{Encodes-length}
use Rattle.ix_atomic.proofs.SequencedKeeps as step
use Rattle.ix_atomic.proofs.SequencedCalls.{store_more}
use Rattle.ix_atomic.proofs.sequenced.sequenced_byte_atomic.SequencedByteAtomic.store_bytes.Goals as goal

pub store-requires : goal.store-requires
store-requires g c =
    let is_value = g.T.AtomicCopy.is_value in let encoding = g.T.AtomicCopy.encoding in let size = g.T.AtomicCopy.SIZE in
    let sized = Encodes-length is_value encoding size g.met.T.AtomicCopy.encoding_len in
    let kept = c.loop-i.invariant in let k = c.loop-i.i in let bytes = c.args.bytes.now in let value = c.requires.bytes.0 in
    let same = c.self.invariant.2 in let test = c.loop-i-test.true in let end = c.div_ceil-i-end.ensures in
    let inside : 8 * k < size = omega arith in
    let count = c.self.invariant.0 in (
      search rules,
      omega arith,
      step.store (Encodes is_value encoding) size sized _ _ _ k c.word_at.result value bytes c.requires.bytes.1 c.word_at.ensures.byte_range
          (ap (λ seat. seat.0.stage) kept.2) inside c.word_at.ensures.value,
    )

pub loop-i-preserved : goal.loop-i-preserved
loop-i-preserved g c =
    let kept = c.loop-i.invariant in let step = c.store.ensures in let bytes = c.args.bytes.now in (
      step.0 ∙ kept.0,
      step.1 ∙ kept.1,
      store_more g.T.AtomicCopy.SIZE c.loop-i.i c.word_at.result bytes c.loop-i.seat.me c.args.seat.now.me c.store.new.seat.me c.word_at.ensures.byte_range (c.told-bytes ∙ c.self.invariant.2)
          c.word_at.ensures.value kept.2 step.2,
    )
