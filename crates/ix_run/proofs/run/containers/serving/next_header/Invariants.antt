use Rattle.std.proofs.Common.{None}
use Rattle.ix_run.specs.inner.Progress.{Drives, opening}
use Rattle.ix_run.proofs.run.containers.serving.next_header.Given as goal

abbrev pub invariant-loop-lines : goal.invariant-loop-lines
invariant-loop-lines g l = Drives g.R.Read.remaining g.W.Write.contents (l.fn.lines, l.fn.replies) (opening None l.fn.lines) (l.lines, l.replies) (opening None l.lines)

abbrev pub decreases-loop-lines : goal.decreases-loop-lines
decreases-loop-lines g l = l.lines.buffer.fuel
