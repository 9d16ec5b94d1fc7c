use Rattle.ix_slottable.proofs.SlotTables.{MatchesLinks-links}
use Rattle.ix_slottable.proofs.slottable.meta_slot_table.MetaSlotTable.drop.Goals as goal

pub drop_all-requires : goal.drop_all-requires
drop_all-requires g c = MatchesLinks-links _ _ _ _ c.self.invariant
