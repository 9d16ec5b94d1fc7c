use Rattle.std.proofs.Common.{ℕ, ◌≡◌, ◌+◌, ◌<◌, List, [], ◌∷◌, ◌++◌, length, drop, get_or, append_assoc, add-one, arith, rules, refl, ap, sym, ◌∙◌}
use Rattle.std.proofs.Math.Seq.{drop-cons}
use Rattle.std.proofs.lemmas.List.{append-nil, drop_all}
use Rattle.ix_commands.specs.Run.{run_replies, run_state}
use Rattle.ix_commands.proofs.runs.run_all.Goals as goal

-- the command at i is the first of those from i on
drop-command : {C : Type 0} (commands : List C) (i : ℕ) (command : C) → i < length commands → command ≡ get_or commands i command
    → drop i commands ≡ command ∷ drop (i + 1) commands
drop-command commands i command within is =
    let rest = drop-cons commands i command within in
    rw add-one (cc (rest, is))

-- the replies to the commands from i on, and the one to the command at i first
replies_step : {M C R : Type 0} (reply : M → C → R) (after : M → C → M) (model next : M) (commands rest : List C) (command : C) (said : R) (before now replies : List R)
    → commands ≡ command ∷ rest → said ≡ reply model command → next ≡ after model command → now ≡ before ++ (said ∷ [])
    → replies ≡ before ++ run_replies reply after model commands → replies ≡ now ++ run_replies reply after next rest
replies_step reply after model next commands rest command said before now replies first is then grown all =
    let step = ap (run_replies reply after model) first in
    let assoc = append_assoc before (said ∷ []) (run_replies reply after next rest) in
    cc

pub loop-command-init : goal.loop-command-init
loop-command-init g c = (search rules, refl, omega (arith, c.in_ok-replies.ensures.capacity), omega (arith, c.in_ok-replies.ensures.len))

pub loop-command-preserved : goal.loop-command-preserved
loop-command-preserved g c =
    let model = g.T.Runs.model in
    let run = c.run_command-reply.ensures in
    let first = drop-command c.args.commands.now c.loop-command.command-index c.command-item.result c.loop-command-test.true c.command-item.is in
    let state = ap (run_state g.T.Runs.after (model c.loop-command.container)) first in
    let replies =
    replies_step g.T.Runs.reply g.T.Runs.after (model c.loop-command.container) (model c.run_command-reply.new.self) _ _ _ c.run_command-reply.result
    c.loop-command.replies.items c.push.new.self.items _ first run.value run.model c.in-Ok.ensures.items c.loop-command.invariant.0 in
    (replies, cc, omega (arith, c.in-Ok.ensures.capacity), omega (arith, c.in-Ok.ensures.len))

pub unreachable-requires : goal.unreachable-requires
unreachable-requires g c =
    let is = c.loop-command.invariant in
    let room = c.in_default.ensures.succeeds (omega (arith, is.2, is.3)) in
    cc

pub returns-clause-value : goal.returns-clause-value
returns-clause-value g c =
    let is = c.loop-command.invariant in
    let none = drop_all c.loop-command.command-index c.args.commands.now c.loop-command-test.false in
    let later = run_replies g.T.Runs.reply g.T.Runs.after (g.T.Runs.model c.loop-command.container) in
    let items = c.loop-command.replies.items in
    sym (is.0 ∙ ap (λ (rest : List g.row.C.Denot). items ++ later rest) none ∙ append-nil items)

pub returns-clause-model : goal.returns-clause-model
returns-clause-model g c =
    let none = drop_all c.loop-command.command-index c.args.commands.now c.loop-command-test.false in
    sym (c.loop-command.invariant.1 ∙ ap (run_state g.T.Runs.after (g.T.Runs.model c.loop-command.container)) none)
