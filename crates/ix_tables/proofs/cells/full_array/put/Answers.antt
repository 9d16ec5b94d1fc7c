use Rattle.ix_tables.proofs.FullArrays.{refill-slice_set}
use Rattle.ix_tables.proofs.cells.full_array.put.Goals as goal

pub returns : goal.returns
returns g c = rw c.as_mut_slice.ensures.value (refill-slice_set c.args.array.now.items c.args.i c.args.value)
