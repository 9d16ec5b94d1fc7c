use Rattle.std.proofs.Common.{ℕ, ◌∙◌, ap, rules}
use Rattle.std.specs.Prelude.{◌==◌, not}
use Rattle.std.specs.List.{filter}
use Rattle.ix_commands.specs.Replies.{key_reply}
use Rattle.ix_commands.specs.declared.reply.Reply.TheVariants as reply
use Rattle.ix_commands.proofs.StringMatches.{IsFirstMatch-match_indexes, IsLastMatch-match_indexes}
use Rattle.ix_commands.proofs.StringRetain.{is-with_items}
use Rattle.ix_commands.proofs.StringTests.{prefix-test, suffix-test, prefix-stripped, suffix-stripped}
use Rattle.ix_commands.proofs.string.AnyRunsStringCommand.run_command.Goals as goal

pub returns-in-Find-clause-value : goal.returns-in-Find-clause-value
returns-in-Find-clause-value g c =
    let text = (g.S.String.bounded c.args.self.now).items in
    let first = IsFirstMatch-match_indexes text c.in-Find.needle.now c.find.result c.find.ensures in
    rw c.in-Find.is (c.reply_of_key.ensures ∙ ap key_reply first)

pub returns-in-Rfind-clause-value : goal.returns-in-Rfind-clause-value
returns-in-Rfind-clause-value g c =
    let text = (g.S.String.bounded c.args.self.now).items in
    let last = IsLastMatch-match_indexes text c.in-Rfind.needle.now c.rfind.result c.rfind.ensures in
    rw c.in-Rfind.is (c.reply_of_key-in-Rfind.ensures ∙ ap key_reply last)

pub returns-in-StripPrefix-clause-value : goal.returns-in-StripPrefix-clause-value
returns-in-StripPrefix-clause-value g c =
    let text = (g.S.String.bounded c.args.self.now).items in
    rw c.in-StripPrefix.is (ap reply.Bool (prefix-test text c.in-StripPrefix.bytes.now c.strip_prefix.result c.strip_prefix.ensures.value))

pub returns-in-StripPrefix-clause-model : goal.returns-in-StripPrefix-clause-model
returns-in-StripPrefix-clause-model g c =
    let done = c.strip_prefix.ensures in
    rw c.in-StripPrefix.is (prefix-stripped g.S.String.bounded c.args.self.now c.strip_prefix.new.self c.in-StripPrefix.bytes.now c.strip_prefix.result done.value done.string done.refused)

pub returns-in-StripSuffix-clause-value : goal.returns-in-StripSuffix-clause-value
returns-in-StripSuffix-clause-value g c =
    let text = (g.S.String.bounded c.args.self.now).items in
    rw c.in-StripSuffix.is (ap reply.Bool (suffix-test text c.in-StripSuffix.bytes.now c.strip_suffix.result c.strip_suffix.ensures.value))

pub returns-in-StripSuffix-clause-model : goal.returns-in-StripSuffix-clause-model
returns-in-StripSuffix-clause-model g c =
    let done = c.strip_suffix.ensures in
    rw c.in-StripSuffix.is (suffix-stripped g.S.String.bounded c.args.self.now c.strip_suffix.new.self c.in-StripSuffix.bytes.now c.strip_suffix.result done.value done.string done.refused)

pub returns-in-Drop-clause-model : goal.returns-in-Drop-clause-model
returns-in-Drop-clause-model g c =
    let old = g.S.String.bounded c.args.self.now in
    let kept = c.retain.ensures.filtered (λ (b : ℕ). not (b == c.in-Drop.unwanted)) (λ x b f k. search rules) in
    rw c.in-Drop.is (is-with_items (g.S.String.bounded c.retain.new.self) old (filter (λ b. not (b == c.in-Drop.unwanted)) old.items) kept c.retain.ensures.capacity)
