use Rattle.std.proofs.Common.{◌≡◌, ◌+◌, length, ap, subst, arith}
use Rattle.ix_slotmap.specs.Generations.{SlotMapState, retired_count, slot_map_len, IsSlotMapFormed}
use Rattle.ix_slotmap.proofs.Generations.{held_count-parts}
use Rattle.ix_slotmap.proofs.Words.{IsSlotMapFormed-words}
use Rattle.ix_slotmap.proofs.slotmap.meta_slot_map.MetaSlotMap+T+MaybeMoved+T+M.len.Goals as goal

pub overflow_sub-result : goal.overflow_sub-result
overflow_sub-result g c =
    let all = held_count-parts c.self.inside.slots.values in
    let held = c.len.ensures.value in
    let retired = c.self.invariant.counted in omega arith

pub returns-clause-value : goal.returns-clause-value
returns-clause-value g c =
    let all = held_count-parts c.self.inside.slots.values in
    let held = c.len.ensures.value in
    let retired = c.self.invariant.counted in
    let same = ap slot_map_len c.self.view_is in omega arith

pub returns-clause-rest : goal.returns-clause-rest
returns-clause-rest g c =
    let all = held_count-parts c.self.inside.slots.values in
    let rest = c.len.ensures.rest in
    subst (λ (s : SlotMapState g.row.T.Denot). slot_map_len s + retired_count s + length s.slots.free ≡ length s.slots.values) c.self.view_is (omega arith)

pub returns-clause-formed : goal.returns-clause-formed
returns-clause-formed g c = subst IsSlotMapFormed c.self.view_is (IsSlotMapFormed-words c.self.inside.slots c.self.inside.words c.self.inside.retired c.self.invariant c.len.ensures.formed)
