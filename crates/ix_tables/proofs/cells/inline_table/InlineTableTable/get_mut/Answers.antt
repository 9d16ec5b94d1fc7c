use Rattle.std.proofs.Common.{rules, ◌∙◌, Some, refl}
use Rattle.std.proofs.Math.ListN.{length-set}
use Rattle.ix_tables.proofs.Places.{shown_within, shown_set, content_held, place_at-item, item_held}
use Rattle.ix_tables.proofs.cells.inline_table.InlineTableTable.get_mut.Goals as goal

pub place_mut-requires : goal.place_mut-requires
place_mut-requires g c = (search rules, shown_within c.self.inside.places.items c.self.view_is c.args.i c.requires)

pub item_mut-requires : goal.item_mut-requires
item_mut-requires g c = content_held c.self.inside.places.items c.self.view_is c.args.i c.requires c.place_mut.ensures.value

pub get_mut-requires : goal.get_mut-requires
get_mut-requires g c = item_held c.self.inside.places.items c.self.view_is c.args.i c.requires c.place_mut.ensures.value c.item_mut.ensures.value

pub invariant_of-self-lent : goal.invariant_of-self-lent
invariant_of-self-lent g c w = length-set c.self.inside.places.items c.args.i (Some (Some w)) ∙ c.self.invariant

pub returns : goal.returns
returns g c =
    let item = place_at-item c.self.inside.places.items c.self.view_is c.args.i c.requires c.place_mut.ensures.value c.item_mut.ensures.value in (
      (refl {a = c.get_mut.result.ghost_name}, λ w. shown_set c.self.inside.places.items c.self.view_is c.args.i (Some (Some w))),
      record { writes_back = tt; value = item ∙ c.get_mut.ensures.value },
    )
