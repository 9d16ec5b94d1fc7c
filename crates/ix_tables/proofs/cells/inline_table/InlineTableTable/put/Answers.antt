use Rattle.std.proofs.Common.{rules, arith, ◌∙◌, Option, Some, length, map, ap}
use Rattle.std.specs.Prelude.{slice_set}
use Rattle.std.specs.Option.{option_flatten}
use Rattle.std.proofs.Math.ListN.{length-set}
use Rattle.ix_tables.proofs.Places.{shown_length, shown_set}
use Rattle.ix_tables.proofs.cells.inline_table.InlineTableTable.put.Goals as goal

pub put-requires : goal.put-requires
put-requires g c = (search rules, omega (arith, shown_length c.self.inside.places.items c.self.view_is, c.requires.0))

pub invariant_of-self : goal.invariant_of-self
invariant_of-self g c = ap length c.put.ensures ∙ length-set c.self.inside.places.items _ _ ∙ c.self.invariant

pub returns : goal.returns
returns g c = ap (map option_flatten) c.put.ensures ∙ shown_set c.self.inside.places.items c.self.view_is c.args.i (Some c.new.result) ∙ ap (λ (item : Option g.row.T.Denot). slice_set c.args.self.now c.args.i item) c.new.ensures
