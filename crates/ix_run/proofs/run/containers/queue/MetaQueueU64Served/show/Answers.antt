use Rattle.std.proofs.Common.{ℕ, List, map, decimal}
use Rattle.ix_run.proofs.Listings.{YieldsTexts-first, items_text-map}
use Rattle.ix_run.proofs.run.containers.queue.MetaQueueU64Served.show.Goals as goal

pub returns : goal.returns
returns g c =
    let shown = c.append_items.ensures (λ (items : List ℕ). map decimal items) (YieldsTexts-first (λ item. item.now) (λ items. items) decimal) in
    rw (items_text-map decimal c.iter.result, c.iter.ensures.items) at shown
