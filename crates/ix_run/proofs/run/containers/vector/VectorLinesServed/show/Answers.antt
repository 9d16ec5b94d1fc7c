use Rattle.std.proofs.Common.{map, decimal}
use Rattle.std.specs.Slice.Iter.{iter_rest}
use Rattle.ix_run.proofs.Listings.{YieldsTexts-slice, items_text-map}
use Rattle.ix_run.proofs.run.containers.vector.VectorLinesServed.show.Goals as goal

pub returns : goal.returns
returns g c =
    let shown = c.append_items.ensures (λ items. map decimal (iter_rest items)) (YieldsTexts-slice decimal) in
    rw (items_text-map decimal (iter_rest c.iter.result), c.iter.ensures.rest, c.as_slice.ensures.value) at shown
