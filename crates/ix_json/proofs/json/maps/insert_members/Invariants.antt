use Rattle.std.proofs.Common.{◌≡◌}
use Rattle.serde_json.specs.View.{members_view}
use Rattle.ix_json.specs.JsonTree.{bytes_read, map_with}
use Rattle.ix_json.proofs.Objects.{members_make}
use Rattle.ix_json.proofs.json.maps.insert_members.Given as goal

-- the members that are still to come make of the map what all make of the first one
abbrev pub invariant-loop-name : goal.invariant-loop-name
invariant-loop-name g l =
    members_make (bytes_read g.row.N) g.V.JsonForm.read (map_with l.map) (members_view l.name-iterator)
    ≡ members_make (bytes_read g.row.N) g.V.JsonForm.read (map_with l.initial.map) (members_view l.members.entries)
