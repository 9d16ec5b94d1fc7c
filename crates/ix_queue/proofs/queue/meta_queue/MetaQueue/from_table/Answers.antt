use Rattle.ix_queue.proofs.Rings.{Shows-bounded_new}
use Rattle.ix_queue.proofs.queue.meta_queue.MetaQueue.from_table.Goals as goal

pub invariant_of-result : goal.invariant_of-result
invariant_of-result g c = (Shows-bounded_new _ _ c.requires).sound

pub returns : goal.returns
returns g c = (Shows-bounded_new _ _ c.requires).is
