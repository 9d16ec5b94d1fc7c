use Rattle.std.proofs.Common.{refl}
use Rattle.ix_flatmap.proofs.FlatBounds.{IsBound-slot_table_new}
use Rattle.ix_flatmap.proofs.flatmap.bound.BoundHeapIndex.new_in.Goals as goal

pub returns-clause-value : goal.returns-clause-value
returns-clause-value g c = IsBound-slot_table_new _ _ refl
