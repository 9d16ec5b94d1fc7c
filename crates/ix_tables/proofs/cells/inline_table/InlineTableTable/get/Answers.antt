use Rattle.std.proofs.Common.{rules, ◌∙◌}
use Rattle.ix_tables.proofs.Places.{shown_within, content_held, place_at-item, item_held}
use Rattle.ix_tables.proofs.cells.inline_table.InlineTableTable.get.Goals as goal

pub place-requires : goal.place-requires
place-requires g c = (search rules, shown_within c.self.inside.places.items c.self.view_is c.args.i c.requires)

pub item-requires : goal.item-requires
item-requires g c = content_held c.self.inside.places.items c.self.view_is c.args.i c.requires c.place.ensures

pub get-requires : goal.get-requires
get-requires g c = item_held c.self.inside.places.items c.self.view_is c.args.i c.requires c.place.ensures c.item.ensures

pub returns : goal.returns
returns g c = place_at-item c.self.inside.places.items c.self.view_is c.args.i c.requires c.place.ensures c.item.ensures ∙ c.get.ensures
