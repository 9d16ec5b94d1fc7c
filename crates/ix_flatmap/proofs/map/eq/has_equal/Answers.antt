use Rattle.std.proofs.Common.{sym, ap, ◌∙◌, false}
use Rattle.std.specs.Option.{option_map_or}
use Rattle.ix_flatmap.proofs.MapEqual.{any_value}
use Rattle.ix_flatmap.proofs.map.eq.has_equal.Goals as goal

pub returns-in-Some : goal.returns-in-Some
returns-in-Some g c =
    c.eq.ensures
    ∙ ap (λ found. option_map_or (λ own. g.V.PartialEq.eq own c.args.value.now) found false) c.in-Some.ensures.value
    ∙ sym (any_value g.K.PartialEq.eq g.V.PartialEq.eq g.met.K.Eq.laws c.args.key.now c.args.value.now c.args.map.now c.requires)

pub returns-in-None : goal.returns-in-None
returns-in-None g c =
    ap (λ found. option_map_or (λ own. g.V.PartialEq.eq own c.args.value.now) found false) c.in-None.ensures.value
    ∙ sym (any_value g.K.PartialEq.eq g.V.PartialEq.eq g.met.K.Eq.laws c.args.key.now c.args.value.now c.args.map.now c.requires)
