use Rattle.std.proofs.Common.{rules, arith, ◌≡◌, ◌+◌, ◌*◌, ◌<◌, length, take, sym, ap, ◌∙◌}
use Rattle.std.proofs.lemmas.List.{length-take-le}
use Rattle.ix_atomic.specs.History.{data_words}
use Rattle.ix_atomic.specs.inner.SequencedRule.{Encodes}
use Rattle.ix_atomic.specs.inner.SequencedSteps.{seated_stage}
use Rattle.ix_atomic.specs.declared.sequenced.rule.Stage.TheVariants.{Reading}
use Rattle.ix_atomic.proofs.DataWords.{length-with_word}
use Rattle.ix_atomic.proofs.Encodes.{Encodes-length}
use Rattle.ix_atomic.proofs.SequencedKeeps as step
use Rattle.ix_atomic.proofs.SequencedCalls.{load_more}
use Rattle.ix_atomic.proofs.sequenced.sequenced_byte_atomic.SequencedByteAtomic.load_bytes.Goals as goal

pub load-requires : goal.load-requires
load-requires g c =
    let is_value = g.T.AtomicCopy.is_value in let encoding = g.T.AtomicCopy.encoding in let size = g.T.AtomicCopy.SIZE in
    let sized = Encodes-length is_value encoding size g.met.T.AtomicCopy.encoding_len in
    let kept = c.loop-i.invariant in let k = c.loop-i.i in let bytes = c.loop-i.bytes in
    let same = c.self.invariant.2 in let test = c.loop-i-test.true in let end = c.div_ceil-i-end.ensures in
    let long : length bytes ≡ g.row.SIZE = kept.3 in
    let inside : 8 * k < size = omega arith in let count = c.self.invariant.0 in (
      search rules,
      omega arith,
      step.load_word (Encodes is_value encoding) size sized _ _ _ c.args.first k (take (8 * k) bytes) (ap (λ seat. seat.0.stage) kept.2) (length-take-le (8 * k) bytes (omega arith)) inside,
    )

pub loop-i-preserved : goal.loop-i-preserved
loop-i-preserved g c =
    let kept = c.loop-i.invariant in let step = c.load.ensures in let bytes = c.loop-i.bytes in let k = c.loop-i.i in let word = c.load.result in
    let same = c.self.invariant.2 in let test = c.loop-i-test.true in let end = c.div_ceil-i-end.ensures in
    let long : length bytes ≡ g.row.SIZE = kept.3 in let inside : 8 * k < g.row.SIZE = omega arith in
    let written = c.set_word_at.ensures.bytes in (
      step.0 ∙ kept.0,
      step.1 ∙ kept.1,
      load_more g.T.AtomicCopy.SIZE c.args.first k word bytes c.loop-i.seat.me c.args.seat.now.me c.load.new.seat.me (long ∙ same) (omega arith) kept.2 step.2
          ∙ ap (λ list. seated_stage (data_words (k + 1)) (Reading c.args.first (take (8 * (k + 1)) list)) c.args.seat.now.me) (sym written),
      ap length written ∙ length-with_word k word bytes (omega arith) ∙ long,
    )
