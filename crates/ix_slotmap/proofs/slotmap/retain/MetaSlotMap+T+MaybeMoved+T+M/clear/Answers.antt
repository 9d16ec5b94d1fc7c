use Rattle.std.proofs.Common.{rules, ◌≡◌, ◌≤◌, length, sym, ap, ◌∙◌, subst, arith}
use Rattle.ix_slotmap.specs.Generations.{SlotMapState, place_value, slot_map_len, IsDead}
use Rattle.ix_slotmap.specs.SlotMapSteps.{slot_map_remove_at, slot_map_clear}
use Rattle.ix_slottable.proofs.SlotTableCalls.{fold-range_with_len}
use Rattle.ix_slotmap.proofs.Generations.{if_none}
use Rattle.ix_slotmap.proofs.SlotMapCalls.{SettlesPlace-slot_map_remove_at}
use Rattle.ix_slotmap.proofs.SlotMapCounts.{IsDead-slot_map_clear_held, IsDead-slot_map_clear, place_value-slot_map_clear, slot_map_len-slot_map_clear, room-slot_map_clear}
use Rattle.ix_slotmap.proofs.Words.{generations-words}
use Rattle.ix_slotmap.proofs.slotmap.retain.MetaSlotMap+T+MaybeMoved+T+M.clear.Goals as goal

pub loop-place-preserved : goal.loop-place-preserved
loop-place-preserved g c =
    let at = c.loop-place.invariant in
    let step = c.remove_at.ensures in
    let settles = SettlesPlace-slot_map_remove_at c.loop-place.self c.loop-place.place c.remove_at.new.self step.map in
    record {
      map = step.map ∙ ap (λ (s : SlotMapState g.row.T.Denot). slot_map_remove_at s c.loop-place.place) at.map ∙ sym (fold-range_with_len slot_map_remove_at c.args.self.now c.loop-place.place);
      capacity = settles.capacity ∙ at.capacity;
    }

pub prove-unreachable-requires : goal.prove-unreachable-requires
prove-unreachable-requires g c =
    let is : c.loop-place.self ≡ slot_map_clear c.args.self.now = search rules in
    c.if-prove.true (c.len.ensures.value ∙ (ap slot_map_len is ∙ slot_map_len-slot_map_clear c.args.self.now (generations-words _ _ _ c.self.invariant.lengths c.self.view_is)))

pub returns-clause-map : goal.returns-clause-map
returns-clause-map g c = search rules

pub returns-clause-empty : goal.returns-clause-empty
returns-clause-empty g c =
    λ key. if_none _ _ (ap (λ (s : SlotMapState g.row.T.Denot). place_value s key.index) (returns-clause-map g c) ∙ place_value-slot_map_clear c.args.self.now (generations-words _ _ _ c.self.invariant.lengths c.self.view_is) key.index)

pub returns-clause-killed : goal.returns-clause-killed
returns-clause-killed g c =
    λ key held. subst (λ (s : SlotMapState g.row.T.Denot). IsDead s key) (sym (returns-clause-map g c)) (IsDead-slot_map_clear_held c.args.self.now (generations-words _ _ _ c.self.invariant.lengths c.self.view_is) key held)

pub returns-clause-dead : goal.returns-clause-dead
returns-clause-dead g c =
    λ key dead. subst (λ (s : SlotMapState g.row.T.Denot). IsDead s key) (sym (returns-clause-map g c)) (IsDead-slot_map_clear c.args.self.now (generations-words _ _ _ c.self.invariant.lengths c.self.view_is) key dead)

pub returns-clause-count : goal.returns-clause-count
returns-clause-count g c = ap slot_map_len (returns-clause-map g c) ∙ slot_map_len-slot_map_clear c.args.self.now (generations-words _ _ _ c.self.invariant.lengths c.self.view_is)

pub returns-clause-room : goal.returns-clause-room
returns-clause-room g c =
    let none = returns-clause-count g c in
    let all = c.len.ensures.rest in
    let same = c.loop-place.invariant.capacity in omega (arith, none, all, same)

pub returns-clause-grows : goal.returns-clause-grows
returns-clause-grows g c =
    subst (λ (s : SlotMapState g.row.T.Denot). length c.args.self.now.slots.free ≤ length s.slots.free) (sym (returns-clause-map g c)) (room-slot_map_clear c.args.self.now (generations-words _ _ _ c.self.invariant.lengths c.self.view_is))
