use Rattle.std.proofs.Common.{rules, arith, ◌≡◌, ◌<◌, ◌⊎◌, sym, ap, ◌∙◌, subst, inl, inr}
use Rattle.ix_atomic.specs.History.{LoadsTwice, IsOdd, IsEven}
use Rattle.ix_atomic.specs.inner.SequencedRule.{Encodes, parity}
use Rattle.ix_atomic.specs.inner.SequencedSteps.{reader_of}
use Rattle.ix_atomic.proofs.Encodes.{Encodes-length}
use Rattle.ix_atomic.proofs.SequencedKeeps.{load_version}
use Rattle.ix_atomic.proofs.SequencedCalls.{Read, whole_read, loaded-HoldsEach}
use Rattle.ix_atomic.proofs.sequenced.sequenced_byte_atomic.SequencedByteAtomic.read.Given.{Over}
use Rattle.ix_atomic.proofs.sequenced.sequenced_byte_atomic.SequencedByteAtomic.read.Goals.{After-load-last, else-first-last-via-then-first-last+else-first-eq0, else-first-last-via-else-first-last}
use Rattle.ix_atomic.proofs.sequenced.sequenced_byte_atomic.SequencedByteAtomic.read.Goals as goal

pub load-first-requires : goal.load-first-requires
load-first-requires g c = (search rules, search rules, load_version _ _ _ _ c.requires.between_calls)

pub load-last-requires : goal.load-last-requires
load-last-requires g c = (search rules, search rules, load_version _ _ _ _ (ap (λ me. parity me.0.stage) c.load_bytes.ensures.seat))

read : (g : Over) (c : After-load-last g)
    → Read (Encodes g.T.AtomicCopy.is_value g.T.AtomicCopy.encoding) g.row.SIZE c.args.seat.now.me.0 c.load-last.new.seat.me.0 c.load-first.result c.load-last.result c.load_bytes.new.bytes
read g c =
    let is_value = g.T.AtomicCopy.is_value in let encoding = g.T.AtomicCopy.encoding in let size = g.row.SIZE in let same : size ≡ g.T.AtomicCopy.SIZE = c.self.invariant.2 in
    whole_read (Encodes is_value encoding) size (λ value bytes encodes. Encodes-length is_value encoding g.T.AtomicCopy.SIZE g.met.T.AtomicCopy.encoding_len value bytes encodes ∙ sym same) _ _ _ _ _ _ _ (search rules)
    c.load-first.ensures.2.0 (ap (λ me. me.0) c.load_bytes.ensures.seat) c.load-last.ensures.2.0

seat : (g : Over) (c : After-load-last g)
    → LoadsTwice (reader_of c.args.seat.now.table_id c.args.seat.now.me.0) (reader_of c.load-last.new.seat.table_id c.load-last.new.seat.me.0) c.load-first.result c.load-last.result
seat g c = (read g c).seat _ _ (c.load-last.ensures.0 ∙ (c.load_bytes.ensures.place.0 ∙ c.load-first.ensures.0))

pub decoded-requires : goal.decoded-requires
decoded-requires g c =
    let whole = (read g c.before.before.before.before).whole c.if-first-last.true c.if-first-eq0.true in
    record { len = c.load_bytes.ensures.length ∙ c.self.invariant.2; bytes = (whole.0, whole.1) }

pub returns-then-first-eq0-clause-value : goal.returns-then-first-eq0-clause-value
returns-then-first-eq0-clause-value g c =
    let first = c.load-first.result in let same = c.if-first-last.true in let even : IsEven first = c.if-first-eq0.true in
    let before = reader_of c.args.seat.now.table_id c.args.seat.now.me.0 in let after = reader_of c.load-last.new.seat.table_id c.load-last.new.seat.me.0 in
    let loads = c.before.before.before.before.before in
    let whole = (read g loads).whole same even in
    rw (c.decoded.ensures whole.0 whole.1) (first, subst (λ last. LoadsTwice before after first last) (sym same) (seat g loads), even, whole.2)

pub returns-else-first-last-clause-interfered : goal.returns-else-first-last-clause-interfered
returns-else-first-last-clause-interfered g c =
    let first = c.load-first.result in let last = c.load-last.result in let loads = seat g c.before.before in
    let odd_or_less : IsOdd first ⊎ (first < last) = elim c.else-first-last.branch [
      | else-first-last-via-then-first-last+else-first-eq0 w ↦ let odd = w.if-first-eq0.false in inl (omega arith)
      | else-first-last-via-else-first-last w ↦ let differ = w.if-first-last.false in let order = loads.order in inr (omega arith)
    ] in
    rw c.interfered.ensures (loads, odd_or_less)

pub returns-then-first-eq0-clause-all : goal.returns-then-first-eq0-clause-all
returns-then-first-eq0-clause-all g c = loaded-HoldsEach _ _ _ _ c.before.before.before.before.load-last.ensures.2.0

pub returns-else-first-last-clause-all : goal.returns-else-first-last-clause-all
returns-else-first-last-clause-all g c = loaded-HoldsEach _ _ _ _ c.load-last.ensures.2.0
