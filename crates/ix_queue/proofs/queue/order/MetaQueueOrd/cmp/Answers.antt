use Rattle.std.proofs.Common.{◌≡◌, ◌∙◌, List, refl}
use Rattle.std.proofs.lemmas.Iterator.Search.{cmp_from_yields_List}
use Rattle.std.proofs.lemmas.Iterator.Consumers.{YieldsList-from_first}
use Rattle.ix_queue.proofs.queue.order.MetaQueueOrd.cmp.Goals as goal

pub returns : goal.returns
returns g c =
    cmp_from_yields_List (λ (other it : List g.row.T.Denot). it ≡ other) c.iter-2.result g.T.Ord.cmp c.cmp.result c.cmp.ensures.ran
    (YieldsList-from_first (λ x. x.now) (λ rest. rest) c.args.self.now.items c.iter.ensures.items)
    (λ it is. YieldsList-from_first (λ x. x.now) (λ rest. rest) c.args.other.now.items (is ∙ c.iter-2.ensures.items))
    (λ x y. refl)
