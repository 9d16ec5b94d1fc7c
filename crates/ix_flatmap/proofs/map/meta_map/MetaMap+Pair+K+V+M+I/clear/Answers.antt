use Rattle.ix_flatmap.proofs.MapEntries.{map_value-vacant}
use Rattle.ix_flatmap.proofs.map.meta_map.MetaMap+Pair+K+V+M+I.clear.Goals as goal

pub returns-clause-empty : goal.returns-clause-empty
returns-clause-empty g c key = map_value-vacant g.K.PartialEq.eq c.clear.new.pairs _ c.clear.ensures.values key
