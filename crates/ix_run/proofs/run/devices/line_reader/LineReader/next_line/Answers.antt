use Rattle.std.proofs.Common.{◌++◌, ◌∙◌, ◌∷◌, [], refl, sym, ap, arith, append_assoc, append-nil}
use Rattle.std.proofs.lemmas.Result.{err_from_is_err_and}
use Rattle.ix_run.specs.inner.Input.{lines_from, lines_to_come, last_line, line_at}
use Rattle.ix_run.specs.inner.NextLine.{Reads}
use Rattle.ix_run.specs.declared.run.devices.line_reader.LineReader.{LineReader}
use Rattle.ix_run.proofs.Faults.{IsDeviceFault-Read, IsDeviceFault-Write}
use Rattle.ix_run.proofs.Input.{lines_from-append, lines_from-line_feed, lines_from-last_line, line_at-nil, fuel-last, Reads-nil, Reads-append, Reads-Keeps}
use Rattle.ix_run.proofs.NextLine.{NextLine-last}
use Rattle.ix_run.proofs.Pieces.{Lacks-IsOneLine}
use Rattle.ix_run.proofs.Writing.{WriterAppends-nil, WriterAppends-WriterAppends_nil, WriterAppends-WriterAppendsPart_nil, WriterAppendsPart-whole}
use Rattle.ix_run.proofs.run.devices.line_reader.LineReader.next_line.Goals as goal

pub loop-self-init : goal.loop-self-init
loop-self-init g c =
    let cleared = c.clear_line.ensures in (
      cleared.in_place,
      [],
      Reads-nil g.R.Read.remaining c.args.self.now,
      WriterAppends-nil g.W.Write.contents c.args.replies.now,
      λ more. rw (cleared.joined, cleared.rest) refl,
      omega (arith, cleared.fuel),
      λ some. absurd (some cleared.joined),
    )

pub returns-then-self : goal.returns-then-self
returns-then-self g c =
    let at = c.loop-self.invariant in
    let was = c.loop-self.self in
    let taken = c.loop-self-test.ensures in
    let now = c.take_line.new.self in
    let read = ap (λ l. lines_to_come c.args.self.now.buffer l) (sym (append-nil at.1)) ∙ at.4 ([], λ ended. refl) in
    let line = sym (line_at-nil now.joined now.in_place taken.2) in
    NextLine-last g.R.Read.remaining g.W.Write.contents c.args.self.now (record { reader = was.reader; buffer = now; is_at_end = was.is_at_end }) c.args.replies.now c.loop-self.replies at.1 c.is_line_empty.result at.2
    at.3 c.if-self.true taken.1
    (read ∙ lines_from-last_line was.buffer.joined was.buffer.rest now.in_place taken.0 taken.2 ∙ ap (λ l. last_line (line_at l now.in_place)) (sym taken.3))
    (λ some. fuel-last was.buffer.joined was.buffer.rest c.args.self.now.buffer.fuel was.buffer.fuel now.fuel at.6 at.5 taken.4 (λ e. some (line_at-nil now.joined now.in_place taken.2 ∙ taken.3 ∙ e)))
    c.is_line_empty.ensures

pub returns-in_err-write_pending : goal.returns-in_err-write_pending
returns-in_err-write_pending g c =
    let p = err_from_is_err_and c.from_residual.result c.from_residual.ensures.1 in
    let at = c.loop-self.invariant in
    let wrote = c.in_err-write_pending.ensures.written in
    rw (p.1, p.2) (
      IsDeviceFault-Write _ wrote.0,
      at.1,
      at.2,
      WriterAppends-WriterAppendsPart_nil g.W.Write.contents c.args.replies.now c.loop-self.replies c.write_pending.new.self [] at.3 wrote.1,
    )

pub returns-in_err-self : goal.returns-in_err-self
returns-in_err-self g c =
    let p = err_from_is_err_and c.from_residual-in_err-self.result c.from_residual-in_err-self.ensures.1 in
    let at = c.loop-self.invariant in
    let was = c.loop-self.self in
    let failed = c.in_err-self.ensures in
    let now : LineReader g.row.R.Denot = record { reader = record was.reader { now = c.fill.new.reader }; buffer = c.fill.new.self; is_at_end = was.is_at_end } in
    let wrote = WriterAppends-WriterAppends_nil g.W.Write.contents c.args.replies.now c.loop-self.replies c.write_pending.new.self [] at.3 c.in_ok-write_pending.ensures.written in
    rw (p.1, p.2) (
      IsDeviceFault-Read _ failed.0,
      at.1,
      Reads-Keeps g.R.Read.remaining c.args.self.now was now at.1 at.2 c.if-self.false failed.1 refl refl,
      WriterAppendsPart-whole g.W.Write.contents c.args.replies.now c.write_pending.new.self [] wrote,
    )

pub loop-self-preserved : goal.loop-self-preserved
loop-self-preserved g c =
    let at = c.loop-self.invariant in
    let taken = c.loop-self-test.ensures in
    let filled = c.in_ok-self.ensures in
    let piece = c.fill.new.self.rest in
    let was = c.loop-self.self in
    let now : LineReader g.row.R.Denot = record { reader = record was.reader { now = c.fill.new.reader }; buffer = c.fill.new.self; is_at_end = c.in_ok-self.field-0 } in
    let reads : Reads g.R.Read.remaining was now piece = rw c.if-self.false (filled.0, filled.1, refl) in (
      filled.2,
      at.1 ++ piece,
      Reads-append g.R.Read.remaining c.args.self.now was now at.1 piece at.2 reads,
      WriterAppends-WriterAppends_nil g.W.Write.contents c.args.replies.now c.loop-self.replies c.write_pending.new.self [] at.3 c.in_ok-write_pending.ensures.written,
      λ more. ap (λ l. lines_to_come c.args.self.now.buffer l) (append_assoc at.1 piece more.0) ∙ at.4 (piece ++ more.0, λ ended. absurd (let wrong = sym c.if-self.false ∙ ended in cc))
          ∙ lines_from-append was.buffer.joined was.buffer.rest (piece ++ more.0) (Lacks-IsOneLine _ taken.0)
          ∙ ap (λ l. lines_from l (piece ++ more.0)) (sym taken.3 ∙ sym filled.3),
      omega (arith, at.5, taken.4, filled.4),
      λ some. omega (arith, at.5, taken.4, filled.4),
    )

pub returns : goal.returns
returns g c =
    let at = c.loop-self.invariant in
    let taken = c.loop-self-test.ensures in (
      at.1,
      at.2,
      at.3,
      λ more. at.4 more ∙ lines_from-line_feed c.loop-self.self.buffer.joined c.loop-self.self.buffer.rest taken.0 c.take_line.new.self.rest more.0 taken.2 (Lacks-IsOneLine _ taken.1)
          ∙ ap (λ l. l ∷ lines_to_come c.take_line.new.self more.0) (sym taken.3),
      omega (arith, at.5, taken.4),
    )
