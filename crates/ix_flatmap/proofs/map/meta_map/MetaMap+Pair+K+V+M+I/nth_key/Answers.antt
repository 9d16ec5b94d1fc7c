use Rattle.std.proofs.lemmas.Iterator.Consumers.{nth_from_yields_List, YieldsList-from_first}
use Rattle.ix_flatmap.specs.MapState.{map_keys}
use Rattle.ix_flatmap.proofs.map.meta_map.MetaMap+Pair+K+V+M+I.nth_key.Goals as goal

pub returns-clause-value : goal.returns-clause-value
returns-clause-value g c =
    nth_from_yields_List c.nth.result c.nth.new.self c.args.n c.nth.ensures.ran
    (YieldsList-from_first (λ key. key.now) (λ rest. rest) (map_keys c.args.self.now) c.keys.ensures.keys)
