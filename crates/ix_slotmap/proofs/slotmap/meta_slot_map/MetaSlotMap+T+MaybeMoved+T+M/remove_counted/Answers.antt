use Rattle.std.proofs.Common.{Some}
use Rattle.ix_slotmap.proofs.SlotMapCounts.{SlotMapRemove-held_key}
use Rattle.ix_slotmap.proofs.slotmap.meta_slot_map.MetaSlotMap+T+MaybeMoved+T+M.remove_counted.Goals as goal

pub returns-clause-step : goal.returns-clause-step
returns-clause-step g c = SlotMapRemove-held_key c.args.self.now c.args.key c.index.result c.remove_held.new.self (Some c.remove_held.result) (c.is_held.ensures.value.0 c.if-not-is_held.false) c.index.ensures c.remove_held.ensures.step
