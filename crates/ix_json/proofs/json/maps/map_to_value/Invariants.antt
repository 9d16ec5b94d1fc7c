use Rattle.std.proofs.Common.{◌≡◌}
use Rattle.std.specs.List.{AllByRecursion, fold}
use Rattle.serde_json.specs.Data.{put}
use Rattle.serde_json.specs.View.{members_view}
use Rattle.ix_flatmap.specs.MapState.{map_items}
use Rattle.ix_json.specs.JsonTree.{item_members}
use Rattle.ix_json.specs.inner.Objects.{IsItemReadBack}
use Rattle.ix_json.proofs.json.maps.map_to_value.Given as goal

-- with the items that are still to come the members are those of the map, and all items are read back if these are
abbrev pub invariant-loop-key : goal.invariant-loop-key
invariant-loop-key g l =
    (fold (λ members item. put item.0 (g.V.JsonForm.tree item.1) members) (members_view l.members.entries) l.key-iterator ≡ item_members g.V.JsonForm.tree (map_items l.map))
    × (AllByRecursion (IsItemReadBack g.row.N g.V.JsonForm.tree g.V.JsonForm.read) l.key-iterator → AllByRecursion (IsItemReadBack g.row.N g.V.JsonForm.tree g.V.JsonForm.read) (map_items l.map))
