use Rattle.std.proofs.Common.{◌∙◌, ap, ap₂, refl, sym, subst}
use Rattle.std.specs.List.{AllByRecursion, fold}
use Rattle.serde_json.proofs.Views.{members_view-insert_entry}
use Rattle.serde_json.specs.Data.{put}
use Rattle.serde_json.specs.View.{members_view}
use Rattle.ix_json.specs.inner.Objects.{IsItemReadBack}
use Rattle.ix_json.proofs.json.maps.map_to_value.Goals as goal

pub loop-key-preserved : goal.loop-key-preserved
loop-key-preserved g c =
    let tree_of = g.V.JsonForm.tree in
    let was = c.loop-key.members.entries in
    let left = c.next.new.self in
    let steps = c.in-Some.ensures.steps in
    let name = c.in_ok-name.ensures in
    let member = c.in_ok-member.ensures in
    let value = c.in-Some.value.now in
    let inserted = ap members_view c.in-Ok.ensures.entries ∙ members_view-insert_entry was _ _ ∙ ap₂ (λ key tree. put key tree (members_view was)) name.text member.value in
    let back = member.read_back (g.met.V.JsonItem.always_read_back value) in
    let value_back = sym (ap g.V.JsonForm.read member.value) ∙ back in (
      ap (λ members. fold (λ members item. put item.0 (tree_of item.1) members) members left) inserted
          ∙ ap (fold (λ members item. put item.0 (tree_of item.1) members) (members_view was)) (sym steps)
          ∙ c.loop-key.invariant.0,
      λ rest. c.loop-key.invariant.1 (subst (AllByRecursion (IsItemReadBack g.row.N tree_of g.V.JsonForm.read)) (sym steps) ((name.read_back refl, value_back), rest)),
    )
