use Rattle.std.proofs.Common.{map, ap, ◌∙◌}
use Rattle.std.specs.Map.{keys_of, lookup}
use Rattle.ix_slottable.specs.SlotTableState.{entries}
use Rattle.ix_flatmap.specs.MapState.{map_item}
use Rattle.ix_flatmap.proofs.MapEntries.{keys_of-map_items, lookup-map_items}
use Rattle.ix_flatmap.proofs.map.meta_map.MetaMap+Pair+K+V+M+I.iter.Goals as goal

pub returns-clause-keys : goal.returns-clause-keys
returns-clause-keys g c =
    ap keys_of (c.new.ensures ∙ ap (map map_item) (c.iter.ensures.entries ∙ ap entries c.self.view_is)) ∙ keys_of-map_items c.args.self.now

pub returns-clause-exactly : goal.returns-clause-exactly
returns-clause-exactly g c key =
    ap (lookup (λ other. g.K.PartialEq.eq other key)) (c.new.ensures ∙ ap (map map_item) (c.iter.ensures.entries ∙ ap entries c.self.view_is))
    ∙ lookup-map_items g.K.PartialEq.eq c.args.self.now key
