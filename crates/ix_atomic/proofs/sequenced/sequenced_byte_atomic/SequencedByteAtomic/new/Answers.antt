use Rattle.std.proofs.Common.{rules, arith, ◌≡◌, ◌+◌, ◌∷◌, ℕ, suc, List, [], length, sym, ap, ◌∙◌, subst}
use Rattle.atomic_table.specs.Table.{opening}
use Rattle.ix_atomic.specs.inner.SequencedRule.{SequencedRule, Encodes, parity}
use Rattle.ix_atomic.specs.inner.SequencedSteps.{view_new}
use Rattle.ix_atomic.specs.Words.{word_count}
use Rattle.ix_atomic.specs.inner.DataWords.{words_of}
use Rattle.ix_atomic.proofs.Beginnings.{AreBelow}
use Rattle.ix_atomic.proofs.DataWords.{length-words_of}
use Rattle.ix_atomic.proofs.SequencedKeeps as step
use Rattle.ix_atomic.proofs.sequenced.sequenced_byte_atomic.SequencedByteAtomic.new.Goals as goal

pub of_words-requires : goal.of_words-requires
of_words-requires g c =
    let IsEncoding = Encodes g.T.AtomicCopy.is_value g.T.AtomicCopy.encoding in
    let items : c.as_slice.result.now ≡ 0 ∷ words_of (g.T.AtomicCopy.encoding c.args.value) = search rules in
    subst (λ (words : List ℕ). SequencedRule IsEncoding (opening words [] (view_new c.args.value))) (sym items)
    (step.new IsEncoding c.args.value (g.T.AtomicCopy.encoding c.args.value) (search rules) (subst (AreBelow 256) (search rules) c.in_ok-words.ensures.byte_range))

pub split_seat-requires : goal.split_seat-requires
split_seat-requires g c = (search rules, search rules, step.new_reader _ _ _ (ap (λ me. parity me.0.stage) c.in_ok-table.ensures.4))

pub invariant_of-result : goal.invariant_of-result
invariant_of-result g c =
    let bytes : List ℕ = c.encode.new.out in let same = c.requires in let within = c.if-this-gt-MAX_SIZE.false in
    let items : c.as_slice.result.now ≡ 0 ∷ words_of bytes = search rules in
    let long : length bytes ≡ g.row.SIZE = ap length c.encode.ensures.out ∙ (g.met.T.AtomicCopy.encoding_len c.args.value c.encode.ensures.in_range ∙ sym same) in
    let count : length (words_of bytes) ≡ word_count g.row.SIZE = length-words_of bytes ∙ ap word_count long in
    let all : suc (length (words_of bytes)) ≡ 1 + word_count g.row.SIZE = omega arith in
    (c.in_ok-table.ensures.0 ∙ ap length items ∙ all, search rules, same, within)
