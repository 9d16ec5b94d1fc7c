use Rattle.std.proofs.Common.{◌≡◌, take, drop, ap, refl, sym, ◌∙◌, rules}
use Rattle.ix_string.specs.Text.{nul_position, before_nul}
use Rattle.ix_atomic.proofs.PaddedTexts.{AreZeros, AreZeros-padded_text, min-nul_position, text_decoding}
use Rattle.ix_atomic.proofs.byte_atomic.fixed_strings.StaticStringAtomicCopy.decode.Goals as goal

pub returns-then-not-are_zeros : goal.returns-then-not-are_zeros
returns-then-not-are_zeros g c v =
    let bytes = c.args.bytes.now in
    let n : c.strnlen.result ≡ nul_position bytes = c.strnlen.ensures ∙ min-nul_position bytes in
    let rest : c.split_at.result.1.now ≡ drop (nul_position bytes) bytes = c.split_at.ensures.back ∙ ap (λ n. drop n bytes) n in (
      λ none. absurd (cc),
      λ is.
          let zeros : AreZeros c.split_at.result.1.now = rw rest (AreZeros-padded_text g.row.CAPACITY bytes v is.0.0 is.1) in
          let yes = c.are_zeros.ensures.1 zeros in
          absurd (search rules),
    )

pub returns : goal.returns
returns g c v =
    let bytes = c.args.bytes.now in
    let n : c.strnlen.result ≡ nul_position bytes = c.strnlen.ensures ∙ min-nul_position bytes in
    let rest : c.split_at.result.1.now ≡ drop (nul_position bytes) bytes = c.split_at.ensures.back ∙ ap (λ n. drop n bytes) n in
    let text : c.split_at.result.0.now ≡ before_nul bytes = c.split_at.ensures.front ∙ ap (λ n. take n bytes) n in
    rw c.ok.ensures.value
    (text_decoding g.row.CAPACITY bytes c.from_bytes.result c.requires
    (rw (sym rest) (c.if-not-are_zeros.ensures.0 refl))
    (rw (sym text) c.from_bytes.ensures) v)
