use Rattle.std.proofs.Common.{rules, ◌≡◌, ◌++◌, take, drop, sym}
use Rattle.ix_atomic.proofs.Triples.{decodes_triple}
use Rattle.ix_atomic.proofs.byte_atomic.pairs.decode_triple.Goals as goal

pub returns : goal.returns
returns g c triple =
    let bytes = c.args.bytes.now in let n = g.A.AtomicCopy.SIZE in
    let front : c.split_at.result.0.now ≡ take n bytes = search rules in let back : c.split_at.result.1.now ≡ drop n bytes = search rules in
    rw c.with_first.ensures
    (decodes_triple g.A.AtomicCopy.is_value g.B.AtomicCopy.is_value g.C.AtomicCopy.is_value g.A.AtomicCopy.encoding (λ p. g.B.AtomicCopy.encoding p.0 ++ g.C.AtomicCopy.encoding p.1) n bytes
    c.decode.result c.decode_pair.result g.met.A.AtomicCopy.encoding_len (rw (sym front) c.decode.ensures) (rw (sym back) c.decode_pair.ensures) triple)
