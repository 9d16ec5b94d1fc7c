use Rattle.std.proofs.Common.{◌≡◌, ◌∙◌, ◌<◌, ◌≤◌, length, subst, sym, arith, rules}
use Rattle.std.proofs.lemmas.Grind.{common_steps}
use Rattle.std.proofs.lemmas.Result.{on_ok_weaker}
use Rattle.std.specs.Prelude.{Err, IfErr}
use Rattle.serde_json.proofs.Views.{members_len-members_view}
use Rattle.serde_json.specs.Events.{members_len}
use Rattle.serde_json.specs.View.{view, members_view}
use Rattle.ix_json.specs.JsonTree.{bytes_read, new_key, map_with, object_filled}
use Rattle.ix_json.proofs.Objects.{read_so, members_make-same_fault, members_make-checked, IsOk-checked, object_filled-too_long, object_filled-members, IfErr-same, OnErr-never}
use Rattle.ix_json.proofs.json.maps.HeapMapStaticStringJsonFill.fill_from_value.Goals as goal

pub returns-then-len-capacity-clause-fault : goal.returns-then-len-capacity-clause-fault
returns-then-len-capacity-clause-fault g c =
    let map = c.args.self.now in
    let entries = c.in-Some.members.now.entries in
    let found = rw c.in-Some.is at c.as_object.ensures in
    let counted = members_len-members_view entries in
    let more = c.if-len-capacity.true in
    let places = c.capacity.ensures.value in let held = c.len-2.ensures.value in let rest = c.len-2.ensures.rest in
    let longer : length map.free < members_len (members_view entries) = grind (arith, common_steps, c.len.ensures) in
    object_filled-too_long g.row.N g.V.JsonForm.read map (view c.args.value.now) (members_view entries) found longer

pub returns-in_err-check_members-clause-fault : goal.returns-in_err-check_members-clause-fault
returns-in_err-check_members-clause-fault g c =
    let map = c.args.self.now in
    let entries = c.in-Some.members.now.entries in
    let found = rw c.in-Some.is at c.as_object.ensures in
    let counted = members_len-members_view entries in
    let within = c.if-len-capacity.false in
    let places = c.capacity.ensures.value in let held = c.len-2.ensures.value in let rest = c.len-2.ensures.rest in
    let fits : members_len (members_view entries) ≤ length map.free = grind (arith, common_steps, c.len.ensures) in
    let read = g.V.JsonForm.read in
    let fault = c.in_err-check_members.field-0.0 in
    let said : c.from_residual.result ≡ Err fault = search rules in
    let whole = object_filled-members g.row.N read map (view c.args.value.now) (members_view entries) found fits
    ∙ members_make-same_fault (λ key. new_key map (bytes_read g.row.N key)) read read_so (map_with map) (members_view entries) fault c.in_err-check_members.ensures.value in
    subst (λ r. IfErr r (λ fault. object_filled g.row.N read map (view c.args.value.now) ≡ Err fault)) (sym said) whole

pub returns-clause-filled : goal.returns-clause-filled
returns-clause-filled g c =
    let map = c.args.self.now in
    let entries = c.in-Some.members.now.entries in
    let found = rw c.in-Some.is at c.as_object.ensures in
    let counted = members_len-members_view entries in
    let within = c.if-len-capacity.false in
    let places = c.capacity.ensures.value in let held = c.len-2.ensures.value in let rest = c.len-2.ensures.rest in
    let fits : members_len (members_view entries) ≤ length map.free = grind (arith, common_steps, c.len.ensures) in
    let read = g.V.JsonForm.read in
    let whole = object_filled-members g.row.N read map (view c.args.value.now) (members_view entries) found fits
    ∙ members_make-checked map (bytes_read g.row.N) read (map_with map) (members_view entries) c.in_ok-check_members.ensures.value in
    on_ok_weaker c.insert_members.result (λ made. whole ∙ made) c.insert_members.ensures.map

pub returns-clause-fault : goal.returns-clause-fault
returns-clause-fault g c =
    let map = c.args.self.now in
    let entries = c.in-Some.members.now.entries in
    let found = rw c.in-Some.is at c.as_object.ensures in
    let counted = members_len-members_view entries in
    let within = c.if-len-capacity.false in
    let places = c.capacity.ensures.value in let held = c.len-2.ensures.value in let rest = c.len-2.ensures.rest in
    let fits : members_len (members_view entries) ≤ length map.free = grind (arith, common_steps, c.len.ensures) in
    let read = g.V.JsonForm.read in
    let whole = object_filled-members g.row.N read map (view c.args.value.now) (members_view entries) found fits
    ∙ members_make-checked map (bytes_read g.row.N) read (map_with map) (members_view entries) c.in_ok-check_members.ensures.value in
    IfErr-same c.insert_members.result _ _ whole c.insert_members.ensures.fault

pub returns-clause-refused : goal.returns-clause-refused
returns-clause-refused g c =
    let map = c.args.self.now in
    let ok = IsOk-checked map (bytes_read g.row.N) g.V.JsonForm.read (map_with map) (members_view c.in-Some.members.now.entries) c.in_ok-check_members.ensures.value in
    OnErr-never (c.insert_members.new.map ≡ map) c.insert_members.result _ ok c.insert_members.ensures.fault
