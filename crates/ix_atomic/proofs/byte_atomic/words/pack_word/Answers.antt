use Rattle.std.proofs.Common.{arith, ◌≡◌, ◌++◌, sym, ◌∙◌, length, drop, replicate, ap, append-nil}
use Rattle.std.proofs.lemmas.List.{drop_all}
use Rattle.std.specs.Int.{w64, from_le_bytes}
use Rattle.ix_atomic.specs.Words.{bytes_of_word}
use Rattle.ix_atomic.proofs.WordBytes.{bytes_of_word-word_of, from_le_bytes-filled}
use Rattle.ix_atomic.proofs.byte_atomic.words.pack_word.Goals.{then-bytes-eq8, else-bytes-eq8}
use Rattle.ix_atomic.proofs.byte_atomic.words.pack_word.Goals as goal

filled : (c : goal.After-from_le_bytes) → c.if-bytes-eq8.all ≡ c.args.bytes.now ++ drop (length c.args.bytes.now) (replicate 8 0)
filled c = let bytes = c.args.bytes.now in elim c.if-bytes-eq8.branch [
  | then-bytes-eq8 w ↦ let whole = w.if-bytes-eq8.true in
      w.all-is ∙ w.copy_from_slice.ensures.after
      ∙ sym (ap (λ rest. bytes ++ rest) (drop_all (length bytes) (replicate 8 0) (omega arith)) ∙ append-nil bytes)
  | else-bytes-eq8 w ↦ w.all-is ∙ ap (λ front. front ++ drop (length bytes) (replicate 8 0)) w.copy_from_slice-else-bytes-eq8.ensures.after
]

pub returns-clause-value : goal.returns-clause-value
returns-clause-value c = c.from_le_bytes.ensures ∙ ap (from_le_bytes w64) (filled c) ∙ from_le_bytes-filled c.args.bytes.now c.requires

pub returns-clause-bytes : goal.returns-clause-bytes
returns-clause-bytes c = ap (bytes_of_word (length c.args.bytes.now)) (returns-clause-value c) ∙ bytes_of_word-word_of c.args.bytes.now (λ i. (c.type_inv.bytes i).fits)
