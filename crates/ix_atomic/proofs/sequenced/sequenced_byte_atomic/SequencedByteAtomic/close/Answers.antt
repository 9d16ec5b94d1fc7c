use Rattle.std.proofs.Common.{arith, ◌≡◌, ◌*◌, ◌<◌, ℕ, ◌+◌, ◌%◌, List, length, take, get_or, refl, sym, ap, ◌∙◌, subst, Some}
use Rattle.std.specs.Slots.{slots_items}
use Rattle.std.proofs.lemmas.List.{take_all}
use Rattle.ix_atomic.specs.History.{Begins, IsEven, last_value}
use Rattle.ix_atomic.specs.Shares.{IsWhole}
use Rattle.ix_atomic.specs.Writers.{Writer, HoldsEach}
use Rattle.ix_atomic.specs.inner.SequencedRule.{Encodes}
use Rattle.ix_atomic.proofs.Beginnings.{get_or-get_elem, get_elem-tail}
use Rattle.ix_atomic.proofs.DataWords.{length-with_word, unpack-more}
use Rattle.ix_atomic.proofs.Encodes.{Encodes-length}
use Rattle.ix_atomic.proofs.SequencedKeeps.{finished, closed-whole}
use Rattle.ix_atomic.proofs.sequenced.sequenced_byte_atomic.SequencedByteAtomic.close.Given.{Over}
use Rattle.ix_atomic.proofs.sequenced.sequenced_byte_atomic.SequencedByteAtomic.close.Goals.{After-free}
use Rattle.ix_atomic.proofs.sequenced.sequenced_byte_atomic.SequencedByteAtomic.close.Goals as goal

pub loop-i-preserved : goal.loop-i-preserved
loop-i-preserved g c =
    let words : List ℕ = slots_items c.close_with-closed.result.words in
    let out = c.loop-i.bytes in let k = c.loop-i.i in let word = c.word-in-loop-i.result in let kept = c.loop-i.invariant in
    let test = c.loop-i-test.true in let end = c.div_ceil-i-end.ensures in let all : length out ≡ g.row.SIZE = kept.0 in
    let inside : 8 * k < length out = omega arith in
    let written = c.set_word_at.ensures.bytes in (
      ap length written ∙ length-with_word k word out inside ∙ all,
      λ bytes below long has. ap (take (8 * (k + 1))) written
          ∙ unpack-more k word bytes out below (long ∙ sym all) inside (get_elem-tail words k word c.word-in-loop-i.ensures ∙ ap (λ list. get_or list k 0) has) (kept.1 bytes below long has),
    )

-- the last value of a history that the seat's list begins, and the bytes, if no write is in progress
at_rest : (g : Over) (c : After-free g) → IsEven c.word.result
    → (history : List g.row.T.Denot) × (value : g.row.T.Denot) × Begins c.seat.inside.seat.me.0.known history × (last_value history ≡ Some value)
    × Encodes g.T.AtomicCopy.is_value g.T.AtomicCopy.encoding value c.loop-i.bytes
    × (IsWhole c.seat.inside.seat.me.0.share → HoldsEach (length history) c.seat.inside.seat.me.0.places)
at_rest g c even =
    let is_value = g.T.AtomicCopy.is_value in let encoding = g.T.AtomicCopy.encoding in let size = g.T.AtomicCopy.SIZE in
    let words : List ℕ = slots_items c.close_with-closed.result.words in
    let last = finished (Encodes is_value encoding) _ _ words _ c.close_with-closed.ensures.values.2 (ap (λ n. n % 2) (get_or-get_elem words 0 c.word.result c.word.ensures) ∙ even) in
    let long = Encodes-length is_value encoding size g.met.T.AtomicCopy.encoding_len last.value last.bytes last.encoding in
    let same : g.row.SIZE ≡ size = c.self.invariant.2 in let kept = c.loop-i.invariant in let past = c.loop-i-test.false in let end = c.div_ceil-i-end.ensures in
    let out = c.loop-i.bytes in let k = c.loop-i.i in let all : length out ≡ g.row.SIZE = kept.0 in
    let bytes : out ≡ last.bytes =
    sym (take_all (8 * k) out (omega arith)) ∙ kept.1 last.bytes last.byte_range (long ∙ sym same) last.has ∙ take_all (8 * k) last.bytes (omega arith) in
    (last.history, last.value, last.begins, last.is_last, (last.encoding.0, bytes ∙ last.encoding.1), last.whole)

pub decoded-requires : goal.decoded-requires
decoded-requires g c =
    let not_odd = c.if-is_unfinished.false in
    let last = at_rest g c.before.before.before (omega arith) in
    record { len = c.loop-i.invariant.0 ∙ c.self.invariant.2; bytes = (last.1, last.4) }

pub returns : goal.returns
returns g c =
    let not_odd = c.if-is_unfinished.false in
    let last = at_rest g c.before.before.before.before (omega arith) in
    let value : c.decoded.result ≡ last.1 = c.decoded.ensures last.1 last.4 in
    let begins = subst (λ (w : Writer g.row.T.Denot). Begins w.known last.0) c.seat.view_is last.2 in
    let is_last = last.3 ∙ ap Some (sym value) in
    let each = subst (λ (w : Writer g.row.T.Denot). IsWhole w.share → HoldsEach (length last.0) w.places) c.seat.view_is last.5 in
    record { value = (last.0, begins, is_last); whole = λ whole. (c.decoded.result, refl, last.0, begins, is_last, each whole) }

pub returns-then-is_unfinished-clause-whole : goal.returns-then-is_unfinished-clause-whole
returns-then-is_unfinished-clause-whole g c whole =
    let words : List ℕ = slots_items c.close_with-closed.result.words in let odd = c.if-is_unfinished.true in
    absurd (closed-whole (Encodes g.T.AtomicCopy.is_value g.T.AtomicCopy.encoding) _ _ words _ c.close_with-closed.ensures.values.2 c.seat.invariant.1
    (subst (λ (w : Writer g.row.T.Denot). IsWhole w.share) (sym c.seat.view_is) whole) (ap (λ n. n % 2) (get_or-get_elem words 0 c.word.result c.word.ensures) ∙ odd))
