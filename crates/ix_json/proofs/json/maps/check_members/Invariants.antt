use Rattle.std.proofs.Common.{◌≡◌}
use Rattle.serde_json.specs.View.{members_view}
use Rattle.ix_json.specs.JsonTree.{bytes_read, new_key}
use Rattle.ix_json.proofs.Objects.{members_make, read_so}
use Rattle.ix_json.proofs.json.maps.check_members.Given as goal

-- the members that are still to come have the fault that all have
abbrev pub invariant-loop-name : goal.invariant-loop-name
invariant-loop-name g l =
    members_make (λ key. new_key l.map (bytes_read g.row.N key)) g.V.JsonForm.read read_so (members_view l.name-iterator)
    ≡ members_make (λ key. new_key l.map (bytes_read g.row.N key)) g.V.JsonForm.read read_so (members_view l.members.entries)
