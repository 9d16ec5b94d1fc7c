use Rattle.std.proofs.Common.{◌≡◌, ◌∙◌, ◌<◌, ◌≤◌, sym, arith, rules}
use Rattle.std.proofs.lemmas.Grind.{common_steps}
use Rattle.std.specs.Prelude.{Err}
use Rattle.serde_json.proofs.Views.{members_len-members_view}
use Rattle.serde_json.specs.Events.{members_len}
use Rattle.serde_json.specs.View.{view, members_view}
use Rattle.ix_json.proofs.Objects.{object_filled-too_long_for_new, object_filled-members_for_new}
use Rattle.ix_json.proofs.json.maps.InlineMapStaticStringJsonForm.from_value.Goals as goal

pub returns-then-len-clause-value : goal.returns-then-len-clause-value
returns-then-len-clause-value g c =
    let entries = c.in-Some.members.now.entries in
    let found = rw c.in-Some.is at c.as_object.ensures in
    let counted = members_len-members_view entries in
    let more = c.if-len.true in
    let longer : g.row.CAPACITY < members_len (members_view entries) = grind (arith, common_steps, c.len.ensures) in
    sym (object_filled-too_long_for_new g.row.N g.V.JsonForm.read g.row.CAPACITY (view c.args.value.now) (members_view entries) found longer)

pub returns-in_err-insert_members-clause-value : goal.returns-in_err-insert_members-clause-value
returns-in_err-insert_members-clause-value g c =
    let entries = c.in-Some.members.now.entries in
    let found = rw c.in-Some.is at c.as_object.ensures in
    let counted = members_len-members_view entries in
    let within = c.if-len.false in
    let fits : members_len (members_view entries) ≤ g.row.CAPACITY = grind (arith, common_steps, c.len.ensures) in
    let said : c.from_residual.result ≡ Err c.in_err-insert_members.field-0.0 = search rules in
    said ∙ sym (object_filled-members_for_new g.row.N g.V.JsonForm.read g.row.CAPACITY (view c.args.value.now) (members_view entries) found c.default-map.result c.default-map.ensures fits ∙ c.in_err-insert_members.ensures.fault)

pub returns-clause-value : goal.returns-clause-value
returns-clause-value g c =
    let entries = c.in-Some.members.now.entries in
    let found = rw c.in-Some.is at c.as_object.ensures in
    let counted = members_len-members_view entries in
    let within = c.if-len.false in
    let fits : members_len (members_view entries) ≤ g.row.CAPACITY = grind (arith, common_steps, c.len.ensures) in
    sym (object_filled-members_for_new g.row.N g.V.JsonForm.read g.row.CAPACITY (view c.args.value.now) (members_view entries) found c.default-map.result c.default-map.ensures fits ∙ c.in_ok-insert_members.ensures.map)
