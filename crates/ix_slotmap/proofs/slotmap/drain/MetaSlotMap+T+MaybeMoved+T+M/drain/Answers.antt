use Rattle.ix_slotmap.specs.SlotMapDrain.{drain_items, drain_left, drain_lender}
use Rattle.ix_slottable.proofs.Draining.{Draining-keeps_along}
use Rattle.ix_slotmap.proofs.SlotMapEntries.{count_by-held}
use Rattle.ix_slotmap.proofs.SlotMapCounts.{IsDead-slot_map_clear_held, IsDead-slot_map_clear, slot_map_len-slot_map_clear, room-slot_map_clear}
use Rattle.ix_slotmap.proofs.slotmap.drain.MetaSlotMap+T+MaybeMoved+T+M.drain.Goals as goal

pub invariant_of-result : goal.invariant_of-result
invariant_of-result g c = record { counted = count_by-held c.args.self.now 0 c.args.self.now.slots.values }

pub returns-clause-stays : goal.returns-clause-stays
returns-clause-stays g c = Draining-keeps_along drain_items drain_lender drain_left _

pub returns-clause-count : goal.returns-clause-count
returns-clause-count g c = slot_map_len-slot_map_clear c.args.self.now c.len-len.ensures.formed.generations

pub returns-clause-killed : goal.returns-clause-killed
returns-clause-killed g c = λ key held. IsDead-slot_map_clear_held c.args.self.now c.len-len.ensures.formed.generations key held

pub returns-clause-dead : goal.returns-clause-dead
returns-clause-dead g c = λ key dead. IsDead-slot_map_clear c.args.self.now c.len-len.ensures.formed.generations key dead

pub returns-clause-grows : goal.returns-clause-grows
returns-clause-grows g c = room-slot_map_clear c.args.self.now c.len-len.ensures.formed.generations
