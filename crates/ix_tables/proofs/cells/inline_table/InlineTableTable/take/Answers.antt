use Rattle.std.proofs.Common.{rules, ◌∙◌, Option, Some, ap}
use Rattle.std.specs.Prelude.{slice_set}
use Rattle.ix_tables.proofs.Places.{shown_within, shown_set, content_held, place_at-item, item_held}
use Rattle.ix_tables.proofs.cells.inline_table.InlineTableTable.take.Goals as goal

pub place_mut-requires : goal.place_mut-requires
place_mut-requires g c = (search rules, shown_within c.self.inside.places.items c.self.view_is c.args.i c.requires)

pub item_mut-requires : goal.item_mut-requires
item_mut-requires g c = content_held c.self.inside.places.items c.self.view_is c.args.i c.requires c.place_mut.ensures.value

pub take-requires : goal.take-requires
take-requires g c = item_held c.self.inside.places.items c.self.view_is c.args.i c.requires c.place_mut.ensures.value c.item_mut.ensures.value

pub returns-clause-value : goal.returns-clause-value
returns-clause-value g c = place_at-item c.self.inside.places.items c.self.view_is c.args.i c.requires c.place_mut.ensures.value c.item_mut.ensures.value ∙ c.take.ensures.value

pub returns-clause-places : goal.returns-clause-places
returns-clause-places g c =
    shown_set c.self.inside.places.items c.self.view_is c.args.i (Some c.take.new.self)
    ∙ ap (λ (item : Option g.row.T.Denot). slice_set c.args.self.now c.args.i item) c.take.ensures.place
