use Rattle.std.proofs.Common.{refl}
use Rattle.ix_flatmap.proofs.FlatBounds.{IsBound-slot_table_new}
use Rattle.ix_flatmap.proofs.flatmap.bound.BoundInlineIndex.new_inline.Goals as goal

pub returns : goal.returns
returns g c = IsBound-slot_table_new _ _ refl
