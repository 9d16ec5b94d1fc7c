use Rattle.std.proofs.Common.{rules, ◌≡◌, ◌+◌, ◌-◌, ◌*◌, ℕ, List, take, drop, Some, None, subst, sym, ap, ◌∙◌, arith}
use Rattle.std.proofs.lemmas.Grind.{common_steps}
use Rattle.std.proofs.lemmas.List.{take_more_set}
use Rattle.ix_atomic.proofs.ArrayEncodings.{DecodesFront, times-more, DecodesFront-more, DecodesFront-all, refused_part}
use Rattle.ix_atomic.proofs.byte_atomic.value_arrays.decode_array.Goals as goal

-- a part of the bytes, as the code cuts it
part_is : (bytes : List ℕ) (start end i size : ℕ) → start ≡ i * size → end ≡ start + size → take (end - start) (drop start bytes) ≡ take size (drop (i * size) bytes)
part_is bytes start end i size at to =
    let long : end - start ≡ size = omega arith in λ j. take (long j) (drop (at j) bytes)

pub returns-in_err-values : goal.returns-in_err-values
returns-in_err-values g c values =
    let size = g.T.AtomicCopy.SIZE in let bytes = c.args.bytes.now in
    let refused : c.decode.result ≡ None = search rules in
    let none : c.from_residual.result ≡ None = search rules in
    let first : take c.SIZE.result bytes ≡ take size (drop (0 * size) bytes) = let zero : 0 * size ≡ 0 = omega arith in λ j. take (c.SIZE.ensures j) (drop (sym zero j) bytes) in
    rw none (refused_part g.T.AtomicCopy.is_value g.T.AtomicCopy.encoding size g.met.T.AtomicCopy.encoding_len bytes g.row.N 0 (omega (arith, c.if-this-eq0.false))
    (rw (refused, first) at c.decode.ensures) values)

pub returns-in_err-values-2 : goal.returns-in_err-values-2
returns-in_err-values-2 g c values =
    let size = g.T.AtomicCopy.SIZE in let bytes = c.args.bytes.now in let i = c.loop-i.i in let start = c.loop-i.start in
    let refused : c.decode-in-loop-i.result ≡ None = search rules in
    let none : c.from_residual-in_err-values-2.result ≡ None = search rules in
    let part = part_is bytes start (start + c.SIZE-in-loop-i.result) i size c.loop-i.invariant.0 (ap (λ n. start + n) c.SIZE-in-loop-i.ensures) in
    rw none (refused_part g.T.AtomicCopy.is_value g.T.AtomicCopy.encoding size g.met.T.AtomicCopy.encoding_len bytes g.row.N i c.loop-i-test.true
    (rw (refused, part) at c.decode-in-loop-i.ensures) values)

pub loop-i-preserved : goal.loop-i-preserved
loop-i-preserved g c =
    let size = g.T.AtomicCopy.SIZE in let bytes = c.args.bytes.now in let i = c.loop-i.i in let start = c.loop-i.start in
    let kept = c.loop-i.invariant in let front = kept.1 in let value = c.in_ok-values-2.field-0 in
    let found : c.decode-in-loop-i.result ≡ Some value = search rules in
    let part = part_is bytes start (start + c.SIZE-in-loop-i.result) i size kept.0 (ap (λ n. start + n) c.SIZE-in-loop-i.ensures) in
    let is = (c.decode-in-loop-i.ensures value).0 found in
    let below = c.loop-i-test.true in
    let next = take_more_set c.loop-i.values i value (omega (arith, front.long_values)) in
    let one_more = times-more i size in (
      omega (arith, c.SIZE-in-loop-i.ensures, kept.0),
      DecodesFront-more g.T.AtomicCopy.is_value g.T.AtomicCopy.encoding size g.met.T.AtomicCopy.encoding_len bytes g.row.N i c.loop-i.values _ value front
          (grind (arith, common_steps, front.long_values)) next (record { is = is.0; bytes_are = sym part ∙ is.1 }),
    )

pub returns : goal.returns
returns g c =
    let size = g.T.AtomicCopy.SIZE in let bytes = c.args.bytes.now in
    let past = c.loop-i-test.false in
    let done : c.loop-i.i ≡ g.row.N = omega (arith, c.loop-i.auto.i-end) in
    let front = subst (λ i. DecodesFront g.T.AtomicCopy.is_value g.T.AtomicCopy.encoding size bytes g.row.N i c.loop-i.values) done c.loop-i.invariant.1 in
    DecodesFront-all g.T.AtomicCopy.is_value g.T.AtomicCopy.encoding size g.met.T.AtomicCopy.encoding_len g.met.T.AtomicCopy.one_value bytes g.row.N c.loop-i.values c.requires front
