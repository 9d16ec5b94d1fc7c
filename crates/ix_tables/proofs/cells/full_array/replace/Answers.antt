use Rattle.ix_tables.proofs.FullArrays.{refill-slice_set}
use Rattle.ix_tables.proofs.cells.full_array.replace.Goals as goal

pub returns-clause-places : goal.returns-clause-places
returns-clause-places g c = rw (c.as_mut_slice.ensures.value, c.replace.ensures.after) (refill-slice_set c.args.array.now.items c.args.i c.args.value)
