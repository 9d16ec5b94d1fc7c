use Rattle.std.proofs.Common.{◌∙◌, map, ap}
use Rattle.std.specs.Option.{option_flatten}
use Rattle.ix_tables.proofs.Places.{shown_vacant}
use Rattle.ix_tables.proofs.cells.inline_table.InlineTable.vacant.Goals as goal

pub returns : goal.returns
returns g c = ap (map option_flatten) (c.from.ensures.0 ∙ c.no_items.ensures) ∙ shown_vacant g.row.CAP
