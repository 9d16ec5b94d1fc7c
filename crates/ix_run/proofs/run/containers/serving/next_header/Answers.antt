use Rattle.std.proofs.Common.{◌≡◌, [], ◌++◌, None, Some, codes, refl, sym, ap, ◌∙◌, append-nil}
use Rattle.std.specs.Prelude.{option_and_then}
use Rattle.std.proofs.lemmas.Result.{err_from_is_err_and}
use Rattle.ix_run.specs.Headers.{header_of}
use Rattle.ix_run.specs.inner.Input.{lines_to_come}
use Rattle.ix_run.specs.inner.Progress.{opening}
use Rattle.ix_run.specs.Lines.{with_line_feed}
use Rattle.ix_run.specs.Script.{script_replies, replies_to_opening}
use Rattle.ix_run.specs.inner.Progress.{Session}
use Rattle.ix_run.proofs.Progress.{Drives-nil, Drives-line, Fails-line, Fails-unread, ReplyResult-Drives}
use Rattle.ix_run.proofs.Writing.{WriterAppends-nil}
use Rattle.ix_run.proofs.run.containers.serving.next_header.Goals as goal

pub loop-lines-init : goal.loop-lines-init
loop-lines-init g c = Drives-nil g.R.Read.remaining g.W.Write.contents (c.args.lines.now, c.args.replies.now) (opening None c.args.lines.now)

pub returns-in_err-next_line : goal.returns-in_err-next_line
returns-in_err-next_line g c =
    let p = err_from_is_err_and c.from_residual.result c.from_residual.ensures.1 in
    let next = c.in_err-next_line.ensures in
    let now : Session g.row.R.Denot g.row.W.Denot = (c.next_line.new.self, c.next_line.new.replies) in
    let was : Session g.row.R.Denot g.row.W.Denot = (c.loop-lines.lines, c.loop-lines.replies) in
    rw (p.1, p.2) (
    Fails-unread g.R.Read.remaining g.W.Write.contents (c.args.lines.now, c.args.replies.now) was now (opening None c.args.lines.now) (opening None was.0) next.1 _ c.loop-lines.invariant next.0 next.2 next.3
    )

pub returns-in-Some : goal.returns-in-Some
returns-in-Some g c =
    let next = rw c.if-branch.true at c.in_ok-next_line.ensures in
    let now : Session g.row.R.Denot g.row.W.Denot = (c.next_line.new.self, c.next_line.new.replies) in
    let was : Session g.row.R.Denot g.row.W.Denot = (c.loop-lines.lines, c.loop-lines.replies) in
    let found = ap (λ l. option_and_then header_of l) (sym c.line.ensures.value) ∙ sym c.header_of_line.ensures ∙ c.in-Some.is in
    Drives-line g.R.Read.remaining g.W.Write.contents (c.args.lines.now, c.args.replies.now) was now now.1 (opening None c.args.lines.now) (opening None was.0) (opening (Some c.in-Some.header) now.0) next.0 []
    c.loop-lines.invariant next.1 next.2 (WriterAppends-nil g.W.Write.contents now.1)
    (λ more. ap script_replies (next.3 more)
    ∙ ap (λ h. replies_to_opening h (lines_to_come now.0.buffer more.0) (script_replies (lines_to_come now.0.buffer more.0))) found)

pub returns-in_err-append : goal.returns-in_err-append
returns-in_err-append g c =
    let p = err_from_is_err_and c.from_residual-in_err-append.result c.from_residual-in_err-append.ensures.1 in
    let next = rw c.if-branch.true at c.in_ok-next_line.ensures in
    let now : Session g.row.R.Denot g.row.W.Denot = (c.next_line.new.self, c.append.new.self) in
    let was : Session g.row.R.Denot g.row.W.Denot = (c.loop-lines.lines, c.loop-lines.replies) in
    let found = ap (λ l. option_and_then header_of l) (sym c.line.ensures.value) ∙ sym c.header_of_line.ensures ∙ c.in_default.is in
    let rest = script_replies (lines_to_come now.0.buffer []) in
    let line : opening None was.0 next.0 ≡ with_line_feed (codes "?") ++ rest =
    ap (opening None was.0) (sym (append-nil next.0)) ∙ ap script_replies (next.3 ([], λ ended. refl)) ∙ ap (λ h. replies_to_opening h (lines_to_come now.0.buffer []) rest) found in
    rw (p.1, p.2) (
    Fails-line g.R.Read.remaining g.W.Write.contents (c.args.lines.now, c.args.replies.now) was now c.next_line.new.replies (opening None c.args.lines.now) (opening None was.0) next.0 (with_line_feed (codes "?")) rest _
    c.loop-lines.invariant next.1 next.2 c.in_err-append.ensures line
    )

pub loop-lines-preserved : goal.loop-lines-preserved
loop-lines-preserved g c =
    let next = rw c.if-branch.true at c.in_ok-next_line.ensures in
    let now : Session g.row.R.Denot g.row.W.Denot = (c.next_line.new.self, c.append.new.self) in
    let was : Session g.row.R.Denot g.row.W.Denot = (c.loop-lines.lines, c.loop-lines.replies) in
    let found = ap (λ l. option_and_then header_of l) (sym c.line.ensures.value) ∙ sym c.header_of_line.ensures ∙ c.in_default.is in
    Drives-line g.R.Read.remaining g.W.Write.contents (c.args.lines.now, c.args.replies.now) was now c.next_line.new.replies (opening None c.args.lines.now) (opening None was.0) (opening None now.0) next.0
    (with_line_feed (codes "?")) c.loop-lines.invariant next.1 next.2 c.in_ok-append.ensures
    (λ more. ap script_replies (next.3 more)
    ∙ ap (λ h. replies_to_opening h (lines_to_come now.0.buffer more.0) (script_replies (lines_to_come now.0.buffer more.0))) found)

pub returns : goal.returns
returns g c =
    let next = rw c.if-branch.false at c.in_ok-next_line.ensures in
    let now : Session g.row.R.Denot g.row.W.Denot = (c.next_line.new.self, c.next_line.new.replies) in
    let was : Session g.row.R.Denot g.row.W.Denot = (c.loop-lines.lines, c.loop-lines.replies) in
    ReplyResult-Drives g.R.Read.remaining g.W.Write.contents (c.args.lines.now, c.args.replies.now) was now (opening None c.args.lines.now) (opening None was.0) next.0 c.loop-lines.invariant next.1 next.2 next.3
    (ap script_replies next.4)
