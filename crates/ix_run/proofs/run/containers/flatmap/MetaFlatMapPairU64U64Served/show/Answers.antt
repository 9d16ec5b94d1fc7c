use Rattle.std.proofs.Common.{ℕ, List, map, decimal}
use Rattle.ix_run.proofs.Listings.{YieldsTexts-first, items_text-map}
use Rattle.ix_run.proofs.run.containers.flatmap.MetaFlatMapPairU64U64Served.show.Goals as goal

pub returns : goal.returns
returns g c =
    let shown = c.append_items.ensures (λ (keys : List ℕ). map decimal keys) (YieldsTexts-first (λ key. key.now) (λ keys. keys) decimal) in
    rw (items_text-map decimal c.keys.result, c.keys.ensures.keys) at shown
