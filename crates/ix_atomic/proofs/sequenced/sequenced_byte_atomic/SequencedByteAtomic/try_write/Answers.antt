use Rattle.std.proofs.Common.{rules, arith, true≢false, ◌≡◌, ◌<◌, [], ◌∷◌, ◌++◌, length, sym, ap, ◌∙◌, append_assoc, subst, inr}
use Rattle.ix_atomic.specs.History.{IsEven, LoadsTwice, all_words}
use Rattle.ix_atomic.specs.Writers.{Writer, Writes, AreOwn, as_reader}
use Rattle.ix_atomic.specs.inner.SequencedRule.{Encodes, parity}
use Rattle.ix_atomic.specs.inner.SequencedSteps.{writer_of, view_end, ViewClaims}
use Rattle.ix_atomic.proofs.Encodes.{Encodes-length, Encodes-one_value}
use Rattle.ix_atomic.proofs.SequencedKeeps as step
use Rattle.ix_atomic.proofs.SequencedCalls.{below_last, two_loads, whole_write}
use Rattle.ix_atomic.proofs.sequenced.sequenced_byte_atomic.SequencedByteAtomic.try_write.Given.{Over}
use Rattle.ix_atomic.proofs.sequenced.sequenced_byte_atomic.SequencedByteAtomic.try_write.Goals.{After-store}
use Rattle.ix_atomic.proofs.sequenced.sequenced_byte_atomic.SequencedByteAtomic.try_write.Goals as goal

pub load-loaded-requires : goal.load-loaded-requires
load-loaded-requires g c = (search rules, search rules, step.load_version _ _ _ _ c.seat.invariant.1)

pub compare_exchange-found-requires : goal.compare_exchange-found-requires
compare_exchange-found-requires g c =
    let is_value = g.T.AtomicCopy.is_value in let encoding = g.T.AtomicCopy.encoding in
    let encodes : Encodes is_value encoding c.args.value c.encode.new.out = (c.encode.ensures.in_range, c.encode.ensures.out) in
    let not_odd = c.if-loaded-eq1.false in let even : IsEven c.load-loaded.result = omega arith in
    (search rules, search rules, step.claim (Encodes is_value encoding) _ _ _ _ _ c.args.value c.encode.new.out encodes (ap parity c.load-loaded.ensures.2.0.stage) (subst (λ share. 0 < length share) (sym c.load-loaded.ensures.2.0.share) c.seat.invariant.2) even (ap (λ next. next.0) c.in_ok-odd.ensures.value))

pub returns-then-found-loaded-clause-refused : goal.returns-then-found-loaded-clause-refused
returns-then-found-loaded-clause-refused g c =
    let loaded = c.load-loaded.result in let found = c.compare_exchange-found.result in
    let not_odd = c.if-loaded-eq1.false in let even : IsEven loaded = omega arith in
    let one = c.load-loaded.ensures.2.0 in let other = c.compare_exchange-found.ensures.2.1 c.if-found-loaded.true in
    let before = writer_of c.seat.inside.seat.table_id c.seat.inside.seat.me.0 in let after = writer_of c.compare_exchange-found.new.seat.table_id c.compare_exchange-found.new.seat.me.0 in
    let loads : LoadsTwice (as_reader before) (as_reader after) loaded found =
    two_loads (Encodes g.T.AtomicCopy.is_value g.T.AtomicCopy.encoding) _ _ _ _ _ loaded found (c.compare_exchange-found.ensures.0 ∙ c.load-loaded.ensures.0) one other in
    let touched : after.touched ≡ before.touched ++ 0 ∷ 0 ∷ [] = other.touched ∙ ap (λ words. words ++ 0 ∷ []) one.touched ∙ append_assoc before.touched (0 ∷ []) (0 ∷ []) in
    let order = loads.order in let differ = c.if-found-loaded.true in
    let more = subst (λ (writer : Writer g.row.T.Denot). LoadsTwice (as_reader writer) (as_reader after) loaded found × (after.touched ≡ writer.touched ++ 0 ∷ 0 ∷ [])) c.seat.view_is (loads, touched) in
    inr (even, below_last loaded c.load-loaded.type_inv not_odd (λ last. true≢false (sym (c.in_ok-odd.ensures.refused.1 last))), omega arith, more.0, more.1)

pub store-requires : goal.store-requires
store-requires g c =
    let is_value = g.T.AtomicCopy.is_value in let encoding = g.T.AtomicCopy.encoding in
    let encodes : Encodes is_value encoding c.args.value c.encode.new.out = (c.encode.ensures.in_range, c.encode.ensures.out) in
    let not_odd = c.if-loaded-eq1.false in let even : IsEven c.load-loaded.result = omega arith in
    let same : c.compare_exchange-found.result ≡ c.load-loaded.result = search rules in
    let claim = c.compare_exchange-found.ensures.2.0 same in let stored = c.store_bytes.ensures.seat in
    let known = ap (λ me. length me.0.known) stored ∙ ap (λ view. length view.known) claim.begun in let up_to = claim.up_to in
    let next = ap (λ next. next.1) c.in_ok-odd.ensures.value in (
      search rules,
      search rules,
      step.end (Encodes is_value encoding) g.T.AtomicCopy.SIZE (Encodes-length is_value encoding _ g.met.T.AtomicCopy.encoding_len) (Encodes-one_value is_value encoding g.met.T.AtomicCopy.one_value)
          _ _ _ _ c.args.value c.encode.new.out encodes (ap (λ me. me.0.stage) stored) (omega arith),
    )

ended : (g : Over) (c : After-store g) → c.store.new.seat.me ≡ (view_end c.args.value c.store_bytes.new.seat.me.0, c.store_bytes.new.seat.me.1)
ended g c = c.store.ensures.2 c.args.value c.encode.new.out (c.encode.ensures.in_range, c.encode.ensures.out) (ap (λ me. me.0.stage) c.store_bytes.ensures.seat)

wrote : (g : Over) (c : After-store g)
    → Writes (writer_of c.seat.inside.seat.table_id c.seat.inside.seat.me.0) (writer_of c.store.new.seat.table_id c.store.new.seat.me.0) c.args.value
    × AreOwn (writer_of c.store.new.seat.table_id c.store.new.seat.me.0) × (c.store.new.seat.me.0.touched ≡ c.seat.inside.seat.me.0.touched ++ 0 ∷ all_words g.row.SIZE)
wrote g c =
    let not_odd = c.if-loaded-eq1.false in let even : IsEven c.load-loaded.result = omega arith in
    let same : c.compare_exchange-found.result ≡ c.load-loaded.result = search rules in
    let claim = subst (ViewClaims c.load-loaded.new.seat.me.0 c.compare_exchange-found.new.seat.me.0) same (c.compare_exchange-found.ensures.2.0 same) in
    whole_write (Encodes g.T.AtomicCopy.is_value g.T.AtomicCopy.encoding) g.row.SIZE c.load-loaded.result c.args.value c.encode.new.out _ _ _ _ _ _ _ even
    (below_last c.load-loaded.result c.load-loaded.type_inv not_odd (λ last. true≢false (sym (c.in_ok-odd.ensures.refused.1 last)))) c.load-loaded.ensures.2.0 claim c.store_bytes.ensures.seat (ended g c)

share_kept : (g : Over) (c : After-store g) → c.store.new.seat.me.0.share ≡ c.seat.inside.seat.me.0.share
share_kept g c =
    let same : c.compare_exchange-found.result ≡ c.load-loaded.result = search rules in
    ap (λ me. me.0.share) (ended g c) ∙ ap (λ me. me.0.share) c.store_bytes.ensures.seat ∙ ap (λ view. view.share) (c.compare_exchange-found.ensures.2.0 same).begun ∙ c.load-loaded.ensures.2.0.share

pub invariant_of-seat-2 : goal.invariant_of-seat-2
invariant_of-seat-2 g c = let end = ended g c in let stored = c.store_bytes.ensures.seat in (
  ap (λ me. me.1) end ∙ (ap (λ me. me.1) stored ∙ (c.compare_exchange-found.ensures.2.2 ∙ (c.load-loaded.ensures.2.1 ∙ c.seat.invariant.0))),
  ap (λ me. parity me.0.stage) end,
  subst (λ share. 0 < length share) (sym (share_kept g c)) c.seat.invariant.2,
)

pub returns-clause-written : goal.returns-clause-written
returns-clause-written g c = let after = writer_of c.store.new.seat.table_id c.store.new.seat.me.0 in
    subst (λ (before : Writer g.row.T.Denot). Writes before after c.args.value) c.seat.view_is (wrote g c).0

pub returns-clause-own : goal.returns-clause-own
returns-clause-own g c = (wrote g c).1

pub returns-clause-touches : goal.returns-clause-touches
returns-clause-touches g c = (wrote g c).2 ∙ ap (λ writer. writer.touched ++ 0 ∷ all_words g.row.SIZE) c.seat.view_is

pub returns-clause-share : goal.returns-clause-share
returns-clause-share g c = share_kept g c ∙ ap (λ writer. writer.share) c.seat.view_is
