use Rattle.ix_flatmap.proofs.map.kinds.HeapMap+K+V+A+I.with_hasher.Goals as goal

pub returns-clause-empty : goal.returns-clause-empty
returns-clause-empty g c = c.made_of.ensures.empty
