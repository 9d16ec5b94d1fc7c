-- A script from line to line: the replies so far, and those to what is to come.
use Rattle.std.proofs.Common.{ℕ, ◌≡◌, List, [], ◌++◌, Option, true, false, Result, Ok, Err, OnOk, OnErr, refl, sym, ap, ◌∙◌, append_assoc, append-nil, subst, codes}
use Rattle.std.specs.Io.KnownBytes.{Appends}
use Rattle.ix_run.specs.inner.Faults.{IsDeviceFault}
use Rattle.ix_run.specs.inner.NextLine.{Reads, Coming}
use Rattle.ix_run.specs.inner.Progress.{Session, Drives, Fails, ReplyResult}
use Rattle.ix_run.specs.inner.Writing.{WriterAppends, WriterAppendsPart, WriteResult}
use Rattle.ix_run.specs.Lines.{with_line_feed}
use Rattle.ix_run.specs.Outcome.{WritesReplies, WritesPartOfReplies, WritesRepliesBeforeReady}
use Rattle.ix_run.specs.Script.{replies_to}
use Rattle.ix_run.specs.declared.run.devices.fault.ScriptFault.{ScriptFault}
use Rattle.ix_run.specs.declared.run.devices.fault.ScriptFault.TheVariants.{Read, Write, OutOfMemory}
use Rattle.ix_run.specs.declared.run.devices.reply_writer.ReplyWriter.{ReplyWriter}
use Rattle.ix_run.proofs.Faults.{LeftUnwritten-device, LeftUnwritten-Write}
use Rattle.ix_run.proofs.Input.{Reads-nil, Reads-append, Reads-reader, coming_read, coming_before}
use Rattle.ix_run.proofs.Writing.{WriterAppends-nil, WriterAppends-append, WriterAppendsPart-WriterAppends, WriterAppendsPart_append, WriterAppendsPart-same, WriterAppends-WriterAppends_nil, WriterAppends-WriterAppendsPart_nil}

abbrev Text : Type 0
Text = List ℕ → List ℕ

module _ {R W : Type 0} (remaining : R → Option (List ℕ)) (contents : W → Option (List ℕ)) where
  -- nothing was read or written yet
  pub Drives-nil : (a : Session R W) (f : Text) → Drives remaining contents a f a f
  Drives-nil a f = ([], [], Reads-nil remaining a.0, WriterAppends-nil contents a.1, λ more. refl)

  -- one more line was read, and got its reply
  pub Drives-line : (a b c : Session R W) (d : ReplyWriter W) (f g h : Text) (piece reply : List ℕ)
      → Drives remaining contents a f b g → Reads remaining b.0 c.0 piece → WriterAppends contents b.1 [] d → WriterAppends contents d reply c.1
      → ((more : Coming c.0) → g (piece ++ more.0) ≡ reply ++ h more.0) → Drives remaining contents a f c h
  Drives-line a b c d f g h piece reply (read, done, reads, w, next) reads' w' w'' line = (
    read ++ piece,
    done ++ reply,
    Reads-append remaining a.0 b.0 c.0 read piece reads reads',
    WriterAppends-append contents a.1 d c.1 done reply (WriterAppends-WriterAppends_nil contents a.1 b.1 d done w w') w'',
    λ more. ap f (append_assoc read piece more.0) ∙ next (coming_before remaining b.0 c.0 piece reads' more) ∙ ap (λ l. done ++ l) (line more) ∙ sym (append_assoc done reply (h more.0)),
  )

  -- the writer failed at the reply to a line
  pub Fails-line : (a b c : Session R W) (d : ReplyWriter W) (f g : Text) (piece reply rest : List ℕ) (x : ScriptFault)
      → Drives remaining contents a f b g → Reads remaining b.0 c.0 piece → WriterAppends contents b.1 [] d → (x ≡ Write) × WriterAppendsPart contents d reply c.1
      → g piece ≡ reply ++ rest → Fails remaining contents a f c x
  Fails-line a b c d f g piece reply rest x (read, done, reads, w, next) reads' w' (is, part) line =
      let all = next (coming_read remaining b.0 c.0 piece reads') ∙ ap (λ l. done ++ l) line ∙ sym (append_assoc done reply rest) in
      let more = WriterAppendsPart-WriterAppends contents a.1 d c.1 done reply (WriterAppends-WriterAppends_nil contents a.1 b.1 d done w w') part in
      let whole = WriterAppendsPart-same contents a.1 c.1 ((done ++ reply) ++ rest) (f (read ++ piece)) all (WriterAppendsPart_append contents a.1 c.1 (done ++ reply) rest more) in
      (read ++ piece, Reads-append remaining a.0 b.0 c.0 read piece reads reads', whole, LeftUnwritten-Write x whole.1 is)

  -- no line could be read
  pub Fails-unread : (a b c : Session R W) (f g : Text) (piece : List ℕ) (x : ScriptFault)
      → Drives remaining contents a f b g → IsDeviceFault x → Reads remaining b.0 c.0 piece → WriterAppendsPart contents b.1 [] c.1 → Fails remaining contents a f c x
  Fails-unread a b c f g piece x (read, done, reads, w, next) device reads' part =
      let more = WriterAppendsPart_append contents a.1 c.1 done (g piece) (WriterAppends-WriterAppendsPart_nil contents a.1 b.1 c.1 done w part) in
      let whole = WriterAppendsPart-same contents a.1 c.1 (done ++ g piece) (f (read ++ piece)) (next (coming_read remaining b.0 c.0 piece reads')) more in
      (read ++ piece, Reads-append remaining a.0 b.0 c.0 read piece reads reads', whole, LeftUnwritten-device x whole.1 device)

  -- no line is left
  pub ReplyResult-Drives : (a b c : Session R W) (f g : Text) (piece : List ℕ)
      → Drives remaining contents a f b g → Reads remaining b.0 c.0 piece → WriterAppends contents b.1 [] c.1 → c.0.is_at_end ≡ true → g piece ≡ []
      → ReplyResult remaining contents a f c (Ok tt)
  ReplyResult-Drives a b c f g piece (read, done, reads, w, next) reads' w' ended none =
      let all = next (coming_read remaining b.0 c.0 piece reads') ∙ ap (λ l. done ++ l) none ∙ append-nil done in
      let P : List ℕ → Type 0 = λ l. WriterAppends contents a.1 l c.1 in
      (read ++ piece, Reads-append remaining a.0 b.0 c.0 read piece reads reads', ended, subst P (sym all) (WriterAppends-WriterAppends_nil contents a.1 b.1 c.1 done w w'))

  -- the run goes on
  pub ReplyResult-then : (a b c : Session R W) (f g : Text) (r : Result (Unit {0}) ScriptFault) → Drives remaining contents a f b g → ReplyResult remaining contents b g c r
      → ReplyResult remaining contents a f c r
  ReplyResult-then a b c f g (Ok u) (read, done, reads, w, next) (read', reads', ended, w') =
      let all = next (coming_read remaining b.0 c.0 read' reads') in
      let P : List ℕ → Type 0 = λ l. WriterAppends contents a.1 l c.1 in
      (read ++ read', Reads-append remaining a.0 b.0 c.0 read read' reads reads', ended, subst P (sym all) (WriterAppends-append contents a.1 b.1 c.1 done (g read') w w'))
  ReplyResult-then a b c f g (Err x) (read, done, reads, w, next) (read', reads', part, left) =
      let all = next (coming_read remaining b.0 c.0 read' reads') in (
        read ++ read',
        Reads-append remaining a.0 b.0 c.0 read read' reads reads',
        WriterAppendsPart-same contents a.1 c.1 (done ++ g read') (f (read ++ read')) all
            (WriterAppendsPart-WriterAppends contents a.1 b.1 c.1 done (g read') w part),
        left,
      )

  -- some bytes were appended before
  pub ReplyResult-after : (a b c : Session R W) (xs : List ℕ) (g : Text) (r : Result (Unit {0}) ScriptFault) → WriterAppends contents a.1 xs b.1 → a.0 ≡ b.0
      → ReplyResult remaining contents b g c r → ReplyResult remaining contents a (λ more. xs ++ g more) c r
  ReplyResult-after a b c xs g r w same result =
      ReplyResult-then a b c (λ more. xs ++ g more) g r (rw same ([], xs, Reads-nil remaining b.0, w, λ more. refl)) result

  -- the writer failed before anything was read
  pub Fails-first : (a b : Session R W) (xs ys : List ℕ) (f : Text) (x : ScriptFault) → (x ≡ Write) × WriterAppendsPart contents a.1 xs b.1 → a.0 ≡ b.0 → f [] ≡ xs ++ ys
      → Fails remaining contents a f b x
  Fails-first a b xs ys f x (is, part) same all =
      let whole = WriterAppendsPart-same contents a.1 b.1 (xs ++ ys) (f []) all (WriterAppendsPart_append contents a.1 b.1 xs ys part) in
      ([], rw same (Reads-nil remaining b.0), whole, LeftUnwritten-Write x whole.1 is)

  -- there was no memory for the container
  pub Fails-made : (a b : Session R W) (f : Text) → WriterAppends contents a.1 [] b.1 → b.1.pending ≡ [] → a.0 ≡ b.0
      → Fails remaining contents a (λ more. with_line_feed (codes "ready") ++ f more) b OutOfMemory
  Fails-made a b f (m, v, r, name) none same =
      let ready = with_line_feed (codes "ready") ++ f [] in
      let all : a.1.pending ≡ m = sym (append-nil a.1.pending) ∙ r ∙ ap (λ l. m ++ l) none ∙ append-nil m in
      ([], rw same (Reads-nil remaining b.0), (m, ready, v, ap (λ l. l ++ ready) all, name), (f [], refl))

  -- the same replies
  pub ReplyResult-same : (a b : Session R W) (f g : Text) (r : Result (Unit {0}) ScriptFault) → ((more : List ℕ) → g more ≡ f more) → ReplyResult remaining contents a f b r
      → ReplyResult remaining contents a g b r
  ReplyResult-same a b f g (Ok u) same (read, reads, ended, w) =
      let P : List ℕ → Type 0 = λ l. WriterAppends contents a.1 l b.1 in
      (read, reads, ended, subst P (sym (same read)) w)
  ReplyResult-same a b f g (Err x) same (read, reads, part, left) = (read, reads, WriterAppendsPart-same contents a.1 b.1 (f read) (g read) (same read) part, left)

  -- the pending bytes are written in the end
  pub ReplyResult-finish : (a b c : Session R W) (f : Text) (r : Result (Unit {0}) ScriptFault) → ReplyResult remaining contents a f b (Ok tt) → c.0 ≡ b.0
      → WriteResult contents b.1 [] c.1 r → ReplyResult remaining contents a f c r
  ReplyResult-finish a b c f (Ok u) (read, reads, ended, w) same v = (read, rw same reads, rw same ended, WriterAppends-WriterAppends_nil contents a.1 b.1 c.1 (f read) w v)
  ReplyResult-finish a b c f (Err x) (read, reads, ended, w) same v =
      let part = WriterAppends-WriterAppendsPart_nil contents a.1 b.1 c.1 (f read) w v.1 in
      (read, rw same reads, part, LeftUnwritten-Write x part.1 v.0)

  -- the devices are the same
  pub ReplyResult-reader : (a b : Session R W) (f : Text) (r : Result (Unit {0}) ScriptFault) → ReplyResult remaining contents a f b r → b.0.reader.ghost_name ≡ a.0.reader.ghost_name
  ReplyResult-reader a b f (Ok u) (read, reads, ended, w) = Reads-reader remaining a.0 b.0 read reads
  ReplyResult-reader a b f (Err x) (read, reads, part, left) = Reads-reader remaining a.0 b.0 read reads

  pub ReplyResult-writer : (a b : Session R W) (f : Text) (r : Result (Unit {0}) ScriptFault) → ReplyResult remaining contents a f b r → b.1.writer.ghost_name ≡ a.1.writer.ghost_name
  ReplyResult-writer a b f (Ok u) (read, reads, ended, (m, v, s, name)) = name
  ReplyResult-writer a b f (Err x) (read, reads, (m, rest, v, s, name), left) = name

  -- a whole script
  pub WritesReplies_of_ReplyResult : (a b : Session R W) (r : Result (Unit {0}) ScriptFault) → a.1.pending ≡ [] → a.0.is_at_end ≡ false → ReplyResult remaining contents a replies_to b r
      → OnOk r (b.1.pending ≡ [])
      → OnOk r (WritesReplies (remaining a.0.reader.now) (contents a.1.writer.now) (remaining b.0.reader.now) (contents b.1.writer.now))
  WritesReplies_of_ReplyResult a b (Ok u) none start (read, reads, ended, (m, v, r, name)) empty =
      let was = rw start at reads in
      let P : List ℕ → Type 0 = λ l. Appends (contents a.1.writer.now) (contents b.1.writer.now) l in
      let all : m ≡ replies_to read = sym (append-nil m) ∙ ap (λ l. m ++ l) (sym empty) ∙ sym r ∙ ap (λ l. l ++ replies_to read) none in
      (read, was.0, was.1 ended, subst P all v)
  WritesReplies_of_ReplyResult a b (Err x) none start result empty = tt

  pub WritesPartOfReplies_of_ReplyResult : (a b : Session R W) (r : Result (Unit {0}) ScriptFault) → a.1.pending ≡ [] → a.0.is_at_end ≡ false → ReplyResult remaining contents a replies_to b r
      → OnErr r (WritesPartOfReplies (remaining a.0.reader.now) (contents a.1.writer.now) (remaining b.0.reader.now) (contents b.1.writer.now))
  WritesPartOfReplies_of_ReplyResult a b (Ok u) none start result = tt
  WritesPartOfReplies_of_ReplyResult a b (Err x) none start (read, reads, (m, rest, v, r, name), left) =
      let was = rw start at reads in
      (read, m, rest, was.0, v, ap (λ l. l ++ replies_to read) (sym none) ∙ r)

  pub WritesRepliesBeforeReady_of_ReplyResult : (a b : Session R W) (r : Result (Unit {0}) ScriptFault) → a.1.pending ≡ [] → a.0.is_at_end ≡ false
      → ReplyResult remaining contents a replies_to b r → r ≡ Err OutOfMemory
      → WritesRepliesBeforeReady (remaining a.0.reader.now) (contents a.1.writer.now) (remaining b.0.reader.now) (contents b.1.writer.now)
  WritesRepliesBeforeReady_of_ReplyResult a b (Ok u) none start result is = absurd (cc)
  WritesRepliesBeforeReady_of_ReplyResult a b (Err OutOfMemory) none start (read, reads, (m, rest, v, r, name), left) is =
      let was = rw start at reads in
      (read, m, rest, was.0, v, ap (λ l. l ++ replies_to read) (sym none) ∙ r, left)
  WritesRepliesBeforeReady_of_ReplyResult a b (Err Read) none start result is = absurd (cc)
  WritesRepliesBeforeReady_of_ReplyResult a b (Err Write) none start result is = absurd (cc)
