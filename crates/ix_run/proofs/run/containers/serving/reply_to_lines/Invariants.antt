use Rattle.ix_run.specs.inner.Input.{lines_to_come}
use Rattle.ix_run.specs.inner.Progress.{Drives}
use Rattle.ix_run.specs.Script.{replies_to_lines}
use Rattle.ix_run.proofs.run.containers.serving.reply_to_lines.Given as goal

abbrev pub invariant-loop-container : goal.invariant-loop-container
invariant-loop-container g l =
    Drives g.R.Read.remaining g.W.Write.contents
    (l.fn.lines, l.fn.replies) (λ more. replies_to_lines g.C.Served.reply g.C.Served.after g.C.Served.shown (g.C.Served.model l.fn.container) (lines_to_come l.fn.lines.buffer more))
    (l.lines, l.replies) (λ more. replies_to_lines g.C.Served.reply g.C.Served.after g.C.Served.shown (g.C.Served.model l.container) (lines_to_come l.lines.buffer more))

abbrev pub decreases-loop-container : goal.decreases-loop-container
decreases-loop-container g l = l.lines.buffer.fuel
