use Rattle.std.proofs.Common.{rules}
use Rattle.ix_run.specs.inner.Progress.{Session}
use Rattle.ix_run.proofs.Progress.{WritesPartOfReplies_of_ReplyResult, WritesRepliesBeforeReady_of_ReplyResult}
use Rattle.ix_run.proofs.run.scripts.script.Goals as goal

pub returns-clause-err : goal.returns-clause-err
returns-clause-err g c =
    let was : Session g.row.R.Denot g.row.W.Denot = (c.new-lines.result, c.new-replies.result) in
    let now : Session g.row.R.Denot g.row.W.Denot = (c.run_script.new.lines, c.run_script.new.replies) in
    let part = WritesPartOfReplies_of_ReplyResult g.R.Read.remaining g.W.Write.contents was now c.run_script.result c.new-replies.ensures.pending c.new-lines.ensures.is_at_end c.run_script.ensures.replies in
    search (rules, part)

pub returns-clause-out_of_memory : goal.returns-clause-out_of_memory
returns-clause-out_of_memory g c = λ is.
    let was : Session g.row.R.Denot g.row.W.Denot = (c.new-lines.result, c.new-replies.result) in
    let now : Session g.row.R.Denot g.row.W.Denot = (c.run_script.new.lines, c.run_script.new.replies) in
    let part = WritesRepliesBeforeReady_of_ReplyResult g.R.Read.remaining g.W.Write.contents was now c.run_script.result c.new-replies.ensures.pending c.new-lines.ensures.is_at_end c.run_script.ensures.replies is in
    (part.0, part.1, part.2, search (rules, part.3), search (rules, part.4), part.5, part.6)
