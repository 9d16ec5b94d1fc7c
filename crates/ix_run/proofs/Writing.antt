-- Bytes that are appended to pending ones.
use Rattle.std.proofs.Common.{ℕ, ◌≡◌, List, [], ◌++◌, Option, Result, Ok, Err, refl, sym, ap, ◌∙◌, append_assoc, append-nil}
use Rattle.std.specs.Io.KnownBytes.{Appends, Keeps}
use Rattle.ix_run.specs.inner.Writing.{AppendsPart, WriterAppends, WriterAppendsPart, WriteResult}
use Rattle.ix_run.specs.declared.run.devices.fault.ScriptFault.{ScriptFault}
use Rattle.ix_run.specs.declared.run.devices.reply_writer.ReplyWriter.{ReplyWriter}
use Rattle.ix_run.proofs.KnownBytes.{Appends-nil, Appends-append, Appends-Keeps}

module _ {W : Type 0} (contents : W → Option (List ℕ)) where
  pub WriterAppends-nil : (a : ReplyWriter W) → WriterAppends contents a [] a
  WriterAppends-nil a = ([], Appends-nil (contents a.writer.now), append-nil a.pending, refl)

  pub WriterAppends-append : (a b c : ReplyWriter W) (xs ys : List ℕ) → WriterAppends contents a xs b → WriterAppends contents b ys c → WriterAppends contents a (xs ++ ys) c
  WriterAppends-append a b c xs ys (m, v, r, same) (n, w, s, same') = (
    m ++ n,
    Appends-append _ _ _ m n v w,
    sym (append_assoc a.pending xs ys) ∙ ap (λ l. l ++ ys) r ∙ append_assoc m b.pending ys ∙ ap (λ l. m ++ l) s ∙ sym (append_assoc m n c.pending),
    same' ∙ same,
  )

  abbrev pub WriterAppendsPart-WriterAppends : (a b c : ReplyWriter W) (xs ys : List ℕ) → WriterAppends contents a xs b → WriterAppendsPart contents b ys c → WriterAppendsPart contents a (xs ++ ys) c
  WriterAppendsPart-WriterAppends a b c xs ys (m, v, r, same) (n, rest, w, s, same') = (
    m ++ n,
    rest,
    Appends-append _ _ _ m n v w,
    sym (append_assoc a.pending xs ys) ∙ ap (λ l. l ++ ys) r ∙ append_assoc m b.pending ys ∙ ap (λ l. m ++ l) s ∙ sym (append_assoc m n rest),
    same' ∙ same,
  )

  -- a first part of some bytes is one of more bytes
  pub WriterAppendsPart_append : (a b : ReplyWriter W) (xs ys : List ℕ) → WriterAppendsPart contents a xs b → WriterAppendsPart contents a (xs ++ ys) b
  WriterAppendsPart_append a b xs ys (m, rest, v, r, same) = (m, rest ++ ys, v, sym (append_assoc a.pending xs ys) ∙ ap (λ l. l ++ ys) r ∙ append_assoc m rest ys, same)

  -- all bytes are a first part of them
  pub WriterAppendsPart-whole : (a b : ReplyWriter W) (xs : List ℕ) → WriterAppends contents a xs b → WriterAppendsPart contents a xs b
  WriterAppendsPart-whole a b xs (m, v, r, same) = (m, b.pending, v, r, same)

  abbrev pub WriterAppendsPart-same : (a b : ReplyWriter W) (xs ys : List ℕ) → ys ≡ xs → WriterAppendsPart contents a xs b → WriterAppendsPart contents a ys b
  WriterAppendsPart-same a b xs ys e (m, rest, v, r, same) = (m, rest, v, ap (λ l. a.pending ++ l) e ∙ r, same)

  -- bytes, and then further bytes
  pub WriteResult_append : (a b c : ReplyWriter W) (xs ys : List ℕ) (r : Result (Unit {0}) ScriptFault) → WriterAppends contents a xs b → WriteResult contents b ys c r → WriteResult contents a (xs ++ ys) c r
  WriteResult_append a b c xs ys (Ok u) v w = WriterAppends-append a b c xs ys v w
  WriteResult_append a b c xs ys (Err f) v w = (w.0, WriterAppendsPart-WriterAppends a b c xs ys v w.1)

  -- bytes are appended, and then pending ones are written
  pub WriterAppends-WriterAppends_nil : (a b c : ReplyWriter W) (xs : List ℕ) → WriterAppends contents a xs b → WriterAppends contents b [] c → WriterAppends contents a xs c
  WriterAppends-WriterAppends_nil a b c xs (m, v, r, same) (n, w, s, same') =
      (m ++ n, Appends-append _ _ _ m n v w, r ∙ ap (λ l. m ++ l) (sym (append-nil b.pending) ∙ s) ∙ sym (append_assoc m n c.pending), same' ∙ same)

  pub WriterAppends-WriterAppendsPart_nil : (a b c : ReplyWriter W) (xs : List ℕ) → WriterAppends contents a xs b → WriterAppendsPart contents b [] c → WriterAppendsPart contents a xs c
  WriterAppends-WriterAppendsPart_nil a b c xs (m, v, r, same) (n, rest, w, s, same') =
      (m ++ n, rest, Appends-append _ _ _ m n v w, r ∙ ap (λ l. m ++ l) (sym (append-nil b.pending) ∙ s) ∙ sym (append_assoc m n rest), same' ∙ same)

  -- bytes are put behind the pending ones
  pub WriterAppends_put : (a b c : ReplyWriter W) (bytes : List ℕ) → WriterAppends contents a [] b → c.writer ≡ b.writer → c.pending ≡ b.pending ++ bytes → WriterAppends contents a bytes c
  WriterAppends_put a b c bytes (m, v, r, same) kept put = (
    m,
    rw kept v,
    ap (λ l. l ++ bytes) (sym (append-nil a.pending) ∙ r) ∙ append_assoc m b.pending bytes ∙ ap (λ l. m ++ l) (sym put),
    rw kept same,
  )

  pub WriterAppendsPart_after_nil : (a b : ReplyWriter W) (bytes : List ℕ) → WriterAppendsPart contents a [] b → WriterAppendsPart contents a bytes b
  WriterAppendsPart_after_nil a b bytes part = WriterAppendsPart_append a b [] bytes part

  -- the pending bytes are written at once
  pub WriterAppends-Appends : (a b : ReplyWriter W) → Appends (contents a.writer.now) (contents b.writer.now) a.pending → b.pending ≡ [] → b.writer.ghost_name ≡ a.writer.ghost_name → WriterAppends contents a [] b
  WriterAppends-Appends a b v none same = (a.pending, v, ap (λ l. a.pending ++ l) (sym none), same)

  pub WriterAppendsPart-AppendsPart : (a b : ReplyWriter W) → AppendsPart (contents a.writer.now) (contents b.writer.now) a.pending → b.writer.ghost_name ≡ a.writer.ghost_name → WriterAppendsPart contents a [] b
  WriterAppendsPart-AppendsPart a b (m, rest, v, r) same = (m, rest, v, append-nil a.pending ∙ r, same)

  -- a flush that succeeds
  pub WriterAppends-Keeps : (a b c : ReplyWriter W) (xs : List ℕ) → WriterAppends contents a xs b → Keeps (contents b.writer.now) (contents c.writer.now) → c.pending ≡ b.pending
      → c.writer.ghost_name ≡ b.writer.ghost_name → WriterAppends contents a xs c
  WriterAppends-Keeps a b c xs (m, v, r, same) k kept same' = (m, Appends-Keeps _ _ _ m v k, r ∙ ap (λ l. m ++ l) (sym kept), same' ∙ same)

  -- a flush that fails
  pub WriterAppendsPart-Keeps : (a b c : ReplyWriter W) (xs : List ℕ) → WriterAppends contents a xs b → Keeps (contents b.writer.now) (contents c.writer.now) → c.writer.ghost_name ≡ b.writer.ghost_name
      → WriterAppendsPart contents a xs c
  WriterAppendsPart-Keeps a b c xs (m, v, r, same) k same' = (m, b.pending, Appends-Keeps _ _ _ m v k, r, same' ∙ same)
