use Rattle.std.proofs.Common.{ap, ◌∙◌}
use Rattle.std.specs.Prelude.{option_map}
use Rattle.ix_flatmap.proofs.MapEntries.{map_value-IsEntry, IsNone-map_value}
use Rattle.ix_flatmap.proofs.map.meta_map.MetaMap+Pair+K+V+M+I.get_ref.Goals as goal

pub returns-in-Some-clause-found : goal.returns-in-Some-clause-found
returns-in-Some-clause-found g c place pair at equal =
    ap (option_map (λ e. e.1.value)) c.in-Some.ensures.value
    ∙ map_value-IsEntry g.K.PartialEq.eq g.met.K.Eq.laws c.args.self.now _ place pair c.find.ensures.distinct at equal

pub returns-in-Some-clause-absent : goal.returns-in-Some-clause-absent
returns-in-Some-clause-absent g c =
    IsNone-map_value g.K.PartialEq.eq c.args.self.now _ _ (ap (option_map (λ e. e.1.value)) c.in-Some.ensures.value)

pub returns-in-None-clause-found : goal.returns-in-None-clause-found
returns-in-None-clause-found g c place pair at equal =
    ap (option_map (λ e. e.1.value)) c.in-None.ensures.value
    ∙ map_value-IsEntry g.K.PartialEq.eq g.met.K.Eq.laws c.args.self.now _ place pair c.find.ensures.distinct at equal

pub returns-in-None-clause-absent : goal.returns-in-None-clause-absent
returns-in-None-clause-absent g c =
    IsNone-map_value g.K.PartialEq.eq c.args.self.now _ _ (ap (option_map (λ e. e.1.value)) c.in-None.ensures.value)
