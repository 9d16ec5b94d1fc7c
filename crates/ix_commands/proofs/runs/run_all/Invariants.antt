use Rattle.std.proofs.Common.{◌≡◌, ◌++◌, ◌≤◌, length, drop, vec_len, vec_capacity}
use Rattle.ix_commands.specs.Run.{run_replies, run_state}
use Rattle.ix_commands.proofs.runs.run_all.Given as goal

-- the replies so far, and those to the other commands, are the replies to all of them
abbrev pub invariant-loop-command : goal.invariant-loop-command
invariant-loop-command g l =
    let reply = g.T.Runs.reply in
    let after = g.T.Runs.after in
    let first = g.T.Runs.model l.initial.container in
    let model = g.T.Runs.model l.container in
    let rest = drop l.command-index l.commands in
    (run_replies reply after first l.commands ≡ l.replies.items ++ run_replies reply after model rest)
    × (run_state after first l.commands ≡ run_state after model rest)
    × (length l.commands ≤ vec_capacity l.replies)
    × (vec_len l.replies ≡ l.command-index)
