use Rattle.ix_flatmap.specs.MapState.{map_items}
use Rattle.ix_slottable.specs.SlotTableState.{slot_table_new}
use Rattle.ix_json.specs.JsonTree.{object_tree, object_filled}
use Rattle.ix_json.proofs.Objects.{object_filled-slot_table_new, object_filled-same_places, read_back-IfOk}
use Rattle.ix_json.proofs.json.maps.InlineMapStaticStringJsonForm.to_value.Goals as goal

pub returns-clause-read_back : goal.returns-clause-read_back
returns-clause-read_back g c is =
    let map = c.args.self.now in
    let written = c.map_to_value.ensures in
    let tree_of = g.V.JsonForm.tree in
    let read = g.V.JsonForm.read in
    read_back-IfOk (object_filled g.row.N read (slot_table_new g.row.CAPACITY)) (object_tree tree_of (map_items map)) map c.map_to_value.result written.value
    (λ ok. object_filled-slot_table_new tree_of g.row.N read map (written.read_back ok) g.row.CAPACITY is)

pub returns-clause-content : goal.returns-clause-content
returns-clause-content g c ok places =
    let written = c.map_to_value.ensures in
    object_filled-same_places g.V.JsonForm.tree g.row.N g.V.JsonForm.read c.args.self.now (written.read_back ok) written.distinct g.row.CAPACITY places
