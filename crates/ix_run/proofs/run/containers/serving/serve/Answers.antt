use Rattle.std.proofs.Common.{ℕ, List, ◌++◌, [], refl, sym, ap, codes}
use Rattle.std.proofs.lemmas.Result.{err_from_is_err_and}
use Rattle.ix_run.specs.inner.Input.{lines_to_come}
use Rattle.ix_run.specs.Lines.{with_line_feed}
use Rattle.ix_run.specs.Script.{container_replies, replies_to_lines}
use Rattle.ix_run.specs.inner.Progress.{Session}
use Rattle.ix_run.proofs.Progress.{Fails-first, ReplyResult-after, ReplyResult-same}
use Rattle.ix_run.proofs.run.containers.serving.serve.Goals as goal

pub returns-in_err-append : goal.returns-in_err-append
returns-in_err-append g c = λ named capacity empty.
    let p = err_from_is_err_and c.from_residual.result c.from_residual.ensures.1 in
    let was : Session g.row.R.Denot g.row.W.Denot = (c.args.lines.now, c.args.replies.now) in
    let now : Session g.row.R.Denot g.row.W.Denot = (was.0, c.append.new.self) in
    let ready = with_line_feed (codes "ready") in
    let here : List ℕ → List ℕ = λ more. container_replies named capacity (lines_to_come was.0.buffer more) in
    rw (p.1, p.2) (Fails-first g.R.Read.remaining g.W.Write.contents was now ready (here []) (λ more. ready ++ here more) _ c.in_err-append.ensures refl refl)

pub returns : goal.returns
returns g c = λ named capacity empty.
    let was : Session g.row.R.Denot g.row.W.Denot = (c.args.lines.now, c.args.replies.now) in
    let now : Session g.row.R.Denot g.row.W.Denot = (was.0, c.append.new.self) in
    let new : Session g.row.R.Denot g.row.W.Denot = (c.reply_to_lines.new.lines, c.reply_to_lines.new.replies) in
    let ready = with_line_feed (codes "ready") in
    let here : List ℕ → List ℕ = λ more. replies_to_lines g.C.Served.reply g.C.Served.after g.C.Served.shown (g.C.Served.model c.args.container) (lines_to_come was.0.buffer more) in
    let named_here : List ℕ → List ℕ = λ more. container_replies named capacity (lines_to_come was.0.buffer more) in
    ReplyResult-same g.R.Read.remaining g.W.Write.contents was new (λ more. ready ++ here more) (λ more. ready ++ named_here more) _ (λ more. ap (λ l. ready ++ l) (sym (empty (lines_to_come was.0.buffer more))))
    (ReplyResult-after g.R.Read.remaining g.W.Write.contents was now new ready here _ c.in_ok-append.ensures refl c.reply_to_lines.ensures)
