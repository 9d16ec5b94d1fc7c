use Rattle.std.proofs.Common.{◌-◌, length, take, drop, sym, ◌∙◌, rules}
use Rattle.ix_run.proofs.Pieces.{take-drop_rest}
use Rattle.ix_run.proofs.Words.{not_name_before, not_name_inside, name_alone, name_before_space}
use Rattle.ix_run.proofs.run.grammar.words.after_name.Goals as goal

pub returns-then-not-begins_with : goal.returns-then-not-begins_with
returns-then-not-begins_with c = not_name_before c.args.line.now c.args.name.now (sym c.begins_with.ensures ∙ c.if-not-begins_with.true)

pub returns-then-is_empty : goal.returns-then-is_empty
returns-then-is_empty c =
    let line = c.args.line.now in
    let name = c.args.name.now in
    name_alone line name (take (length line - length name) (drop (length name) line)) (sym c.begins_with.ensures ∙ c.if-not-begins_with.false) (take-drop_rest line (length name)) c.requires (search rules)

pub returns-then-rest-ne32 : goal.returns-then-rest-ne32
returns-then-rest-ne32 c =
    let line = c.args.line.now in
    let name = c.args.name.now in
    not_name_inside line name (take (length line - length name) (drop (length name) line)) (sym c.begins_with.ensures ∙ c.if-not-begins_with.false) (take-drop_rest line (length name)) c.requires (search rules) c.if-rest-ne32.true

pub returns : goal.returns
returns c =
    let line = c.args.line.now in
    let name = c.args.name.now in
    name_before_space line name (take (length line - length name) (drop (length name) line)) (sym c.begins_with.ensures ∙ c.if-not-begins_with.false) (take-drop_rest line (length name)) c.requires (search rules) c.if-rest-ne32.false
