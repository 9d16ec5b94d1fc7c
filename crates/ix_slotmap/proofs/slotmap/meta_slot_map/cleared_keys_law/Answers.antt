use Rattle.ix_slotmap.proofs.SlotMapCounts.{IsDead-slot_map_clear_held, IsDead-slot_map_clear}
use Rattle.ix_slotmap.proofs.slotmap.meta_slot_map.cleared_keys_law.Goals as goal

pub returns-clause-killed : goal.returns-clause-killed
returns-clause-killed g c = λ map key formed held. IsDead-slot_map_clear_held map formed.generations key held

pub returns-clause-dead : goal.returns-clause-dead
returns-clause-dead g c = λ map key formed dead. IsDead-slot_map_clear map formed.generations key dead
