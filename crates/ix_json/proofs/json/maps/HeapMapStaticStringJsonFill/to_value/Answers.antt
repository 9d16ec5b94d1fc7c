use Rattle.ix_flatmap.specs.MapState.{map_items}
use Rattle.ix_json.specs.JsonTree.{object_tree, object_filled, by_key, map_without}
use Rattle.ix_json.proofs.Objects.{object_filled-map_without, object_filled-same_entries, read_back-IfOk}
use Rattle.ix_json.proofs.json.maps.HeapMapStaticStringJsonFill.to_value.Goals as goal

pub returns-clause-read_back : goal.returns-clause-read_back
returns-clause-read_back g c =
    let map = c.args.self.now in
    let written = c.map_to_value.ensures in
    let tree_of = g.V.JsonForm.tree in
    let read = g.V.JsonForm.read in
    read_back-IfOk (object_filled g.row.N read (map_without map (by_key (map_items map)))) (object_tree tree_of (map_items map)) map c.map_to_value.result written.value
    (λ ok. object_filled-map_without tree_of g.row.N read map (written.read_back ok) written.distinct)

pub returns-clause-content : goal.returns-clause-content
returns-clause-content g c ok capacity fits =
    let written = c.map_to_value.ensures in
    object_filled-same_entries g.V.JsonForm.tree g.row.N g.V.JsonForm.read c.args.self.now (written.read_back ok) written.distinct capacity fits
