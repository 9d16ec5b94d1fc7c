use Rattle.std.proofs.Common.{ℕ, List, ◌++◌, [], codes, refl}
use Rattle.std.proofs.lemmas.Result.{err_from_is_err_and}
use Rattle.ix_run.specs.inner.Input.{lines_to_come}
use Rattle.ix_run.specs.Lines.{with_line_feed}
use Rattle.ix_run.specs.Script.{container_replies}
use Rattle.ix_run.specs.inner.Progress.{Session}
use Rattle.ix_run.proofs.Progress.{Fails-first, Fails-made}
use Rattle.ix_run.proofs.run.containers.serving.serve_made.Goals as goal

pub returns-in_err-write_pending : goal.returns-in_err-write_pending
returns-in_err-write_pending g c = λ named capacity is.
    let p = err_from_is_err_and c.from_residual.result c.from_residual.ensures.1 in
    let was : Session g.row.R.Denot g.row.W.Denot = (c.args.lines.now, c.args.replies.now) in
    let now : Session g.row.R.Denot g.row.W.Denot = (was.0, c.write_pending.new.self) in
    let from : List ℕ → List ℕ = λ more. with_line_feed (codes "ready") ++ container_replies named capacity (lines_to_come was.0.buffer more) in
    rw (p.1, p.2) (Fails-first g.R.Read.remaining g.W.Write.contents was now [] (from []) from _ c.in_err-write_pending.ensures.written refl refl)

pub returns-in_default : goal.returns-in_default
returns-in_default g c = λ named capacity is.
    let was : Session g.row.R.Denot g.row.W.Denot = (c.args.lines.now, c.args.replies.now) in
    let now : Session g.row.R.Denot g.row.W.Denot = (was.0, c.write_pending.new.self) in
    Fails-made g.R.Read.remaining g.W.Write.contents was now (λ more. container_replies named capacity (lines_to_come was.0.buffer more)) c.in_ok-write_pending.ensures.written
    c.in_ok-write_pending.ensures.empty refl

pub returns : goal.returns
returns g c = λ named capacity is. c.serve.ensures named capacity (rw c.in-Some.is at is)
