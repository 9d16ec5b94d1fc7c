use Rattle.std.proofs.Common.{◌≡◌, ℕ, List, ◌++◌, [], refl, sym, ap, ◌∙◌, append-nil}
use Rattle.std.proofs.lemmas.Result.{err_from_is_err_and}
use Rattle.ix_run.specs.inner.Input.{current_line, lines_to_come}
use Rattle.ix_run.specs.Lines.{with_line_feed}
use Rattle.ix_run.specs.Script.{line_reply, line_after, replies_to_lines}
use Rattle.ix_run.specs.inner.Progress.{Session}
use Rattle.ix_run.proofs.Progress.{Drives-nil, Drives-line, Fails-line, Fails-unread, ReplyResult-Drives}
use Rattle.ix_run.proofs.run.containers.serving.reply_to_lines.Goals as goal

pub loop-container-init : goal.loop-container-init
loop-container-init g c =
    Drives-nil g.R.Read.remaining g.W.Write.contents (c.args.lines.now, c.args.replies.now)
    (λ more. replies_to_lines g.C.Served.reply g.C.Served.after g.C.Served.shown (g.C.Served.model c.args.container.now) (lines_to_come c.args.lines.now.buffer more))

pub returns-in_err-next_line : goal.returns-in_err-next_line
returns-in_err-next_line g c =
    let replies = replies_to_lines g.C.Served.reply g.C.Served.after g.C.Served.shown in
    let p = err_from_is_err_and c.from_residual.result c.from_residual.ensures.1 in
    let next = c.in_err-next_line.ensures in
    let now : Session g.row.R.Denot g.row.W.Denot = (c.next_line.new.self, c.next_line.new.replies) in
    let was : Session g.row.R.Denot g.row.W.Denot = (c.loop-container.lines, c.loop-container.replies) in
    let from : List ℕ → List ℕ = λ more. replies (g.C.Served.model c.args.container.now) (lines_to_come c.args.lines.now.buffer more) in
    let here : List ℕ → List ℕ = λ more. replies (g.C.Served.model c.loop-container.container) (lines_to_come was.0.buffer more) in
    rw (p.1, p.2) (Fails-unread g.R.Read.remaining g.W.Write.contents (c.args.lines.now, c.args.replies.now) was now from here next.1 _ c.loop-container.invariant next.0 next.2 next.3)

pub returns-in_err-answer : goal.returns-in_err-answer
returns-in_err-answer g c =
    let reply = g.C.Served.reply in
    let after = g.C.Served.after in
    let shown = g.C.Served.shown in
    let model = g.C.Served.model c.loop-container.container in
    let p = err_from_is_err_and c.from_residual-in_err-answer.result c.from_residual-in_err-answer.ensures.1 in
    let next = rw c.if-branch.true at c.in_ok-next_line.ensures in
    let now : Session g.row.R.Denot g.row.W.Denot = (c.next_line.new.self, c.answer.new.replies) in
    let was : Session g.row.R.Denot g.row.W.Denot = (c.loop-container.lines, c.loop-container.replies) in
    let line = current_line now.0.buffer in
    let from : List ℕ → List ℕ = λ more. replies_to_lines reply after shown (g.C.Served.model c.args.container.now) (lines_to_come c.args.lines.now.buffer more) in
    let here : List ℕ → List ℕ = λ more. replies_to_lines reply after shown model (lines_to_come was.0.buffer more) in
    let rest = replies_to_lines reply after shown (line_after reply after shown model line) (lines_to_come now.0.buffer []) in
    let all : here next.0 ≡ with_line_feed (line_reply reply after shown model line) ++ rest =
    ap here (sym (append-nil next.0)) ∙ ap (λ l. replies_to_lines reply after shown model l) (next.3 ([], λ ended. refl)) in
    rw (p.1, p.2) (
    Fails-line g.R.Read.remaining g.W.Write.contents (c.args.lines.now, c.args.replies.now) was now c.next_line.new.replies from here next.0 (with_line_feed (line_reply reply after shown model line)) rest _ c.loop-container.invariant next.1
    next.2 (rw (sym c.line.ensures.value) c.in_err-answer.ensures.reply) all
    )

pub loop-container-preserved : goal.loop-container-preserved
loop-container-preserved g c =
    let reply = g.C.Served.reply in
    let after = g.C.Served.after in
    let shown = g.C.Served.shown in
    let model = g.C.Served.model c.loop-container.container in
    let next = rw c.if-branch.true at c.in_ok-next_line.ensures in
    let now : Session g.row.R.Denot g.row.W.Denot = (c.next_line.new.self, c.answer.new.replies) in
    let was : Session g.row.R.Denot g.row.W.Denot = (c.loop-container.lines, c.loop-container.replies) in
    let line = current_line now.0.buffer in
    let from : List ℕ → List ℕ = λ more. replies_to_lines reply after shown (g.C.Served.model c.args.container.now) (lines_to_come c.args.lines.now.buffer more) in
    let here : List ℕ → List ℕ = λ more. replies_to_lines reply after shown model (lines_to_come was.0.buffer more) in
    let then : List ℕ → List ℕ = λ more. replies_to_lines reply after shown (g.C.Served.model c.answer.new.container) (lines_to_come now.0.buffer more) in
    let moved : line_after reply after shown model line ≡ g.C.Served.model c.answer.new.container = ap (λ l. line_after reply after shown model l) (sym c.line.ensures.value) ∙ sym c.in_ok-answer.ensures.model in
    Drives-line g.R.Read.remaining g.W.Write.contents (c.args.lines.now, c.args.replies.now) was now c.next_line.new.replies from here then next.0 (with_line_feed (line_reply reply after shown model line)) c.loop-container.invariant next.1
    next.2 (rw (sym c.line.ensures.value) c.in_ok-answer.ensures.reply)
    (λ more. ap (λ l. replies_to_lines reply after shown model l) (next.3 more)
    ∙ ap (λ m. with_line_feed (line_reply reply after shown model line) ++ replies_to_lines reply after shown m (lines_to_come now.0.buffer more.0)) moved)

pub returns : goal.returns
returns g c =
    let replies = replies_to_lines g.C.Served.reply g.C.Served.after g.C.Served.shown in
    let next = rw c.if-branch.false at c.in_ok-next_line.ensures in
    let now : Session g.row.R.Denot g.row.W.Denot = (c.next_line.new.self, c.next_line.new.replies) in
    let was : Session g.row.R.Denot g.row.W.Denot = (c.loop-container.lines, c.loop-container.replies) in
    let from : List ℕ → List ℕ = λ more. replies (g.C.Served.model c.args.container.now) (lines_to_come c.args.lines.now.buffer more) in
    let here : List ℕ → List ℕ = λ more. replies (g.C.Served.model c.loop-container.container) (lines_to_come was.0.buffer more) in
    ReplyResult-Drives g.R.Read.remaining g.W.Write.contents (c.args.lines.now, c.args.replies.now) was now from here next.0 c.loop-container.invariant next.1 next.2 next.3
    (ap (λ l. replies (g.C.Served.model c.loop-container.container) l) next.4)
