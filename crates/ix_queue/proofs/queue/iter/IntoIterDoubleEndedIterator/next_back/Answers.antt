use Rattle.std.proofs.Common.{List, ap, subst}
use Rattle.std.specs.Iterator.{YieldsLast}
use Rattle.ix_queue.proofs.Backs.{YieldsLast-back}
use Rattle.ix_queue.proofs.queue.iter.IntoIterDoubleEndedIterator.next_back.Goals as goal

pub returns-clause-steps : goal.returns-clause-steps
returns-clause-steps g c =
    subst (λ (items : List g.row.T.Denot). YieldsLast (λ rest. rest) items c.pop_back.result c.pop_back.new.self.items) c.self.view_is
    (YieldsLast-back c.self.inside.queue.items _ _ c.pop_back.ensures.value (ap (λ queue. queue.items) c.pop_back.ensures.queue))
