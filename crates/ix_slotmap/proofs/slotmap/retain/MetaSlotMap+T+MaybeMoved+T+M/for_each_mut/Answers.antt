use Rattle.std.proofs.Common.{◌≤◌, length, refl, subst, arith}
use Rattle.std.proofs.lemmas.Bool.{iff_false}
use Rattle.ix_slotmap.specs.SlotMapSteps.{slot_map_set}
use Rattle.ix_slottable.specs.SlotTableCalls.{CalledOn, ChangesItem}
use Rattle.ix_tables.proofs.Places.{none_of_not_some}
use Rattle.ix_slottable.proofs.SlotTableCalls.{CalledOn-from_step}
use Rattle.ix_slotmap.proofs.SlotMapCalls.{held-slot_map_set_at, IsDead-slot_map_set_at, SettlesPlace-slot_map_set_at, VisitedPlaces-without, VisitedPlaces-with, VisitedPlaces-callable, VisitedPlaces-all}
use Rattle.ix_slotmap.proofs.SlotMapOutcomes.{ChangesItem-keys_map}
use Rattle.ix_slotmap.proofs.slotmap.retain.MetaSlotMap+T+MaybeMoved+T+M.for_each_mut.Goals as goal

pub loop-index-preserved-then-not-has_value : goal.loop-index-preserved-then-not-has_value
loop-index-preserved-then-not-has_value g c =
    let at = c.loop-index.invariant in
    let below = c.loop-index-test.true in
    let all = c.capacity-index-end.ensures.value in
    record {
      visited = VisitedPlaces-without (ChangesItem slot_map_set (goal.F-step g)) _ _ c.loop-index.index _ _ at.visited (omega (arith, below, all))
          (none_of_not_some _ (iff_false c.has_value.ensures.value c.if-not-has_value.true));
      keys = at.keys;
      free = at.free;
      generations = at.generations;
      dead = at.dead;
    }

pub f-requires : goal.f-requires
f-requires g c =
    VisitedPlaces-callable (ChangesItem slot_map_set (goal.F-step g)) _ _ (goal.F-step g) (goal.F-pre g) c.loop-index.index _ _ _ _ (λ p q x step. (tt, step.0, step.1)) c.requires
    c.loop-index.invariant.visited c.key_of-key.ensures.value c.value_mut.ensures.value

pub loop-index-preserved : goal.loop-index-preserved
loop-index-preserved g c =
    let at = c.loop-index.invariant in
    let value = c.value_mut.result.now in
    let left = c.f.new.arg3 in
    let called = subst (λ key. CalledOn (goal.F-step g) c.loop-index.f key value tt left c.f.new.self) c.key_of-key.ensures.value
    (CalledOn-from_step (goal.F-step g) _ _ c.value_mut.result _ _ c.f.new.self c.f.ensures) in
    let same = held-slot_map_set_at c.loop-index.self c.loop-index.index value left c.value_mut.ensures.value in
    record {
      visited = VisitedPlaces-with (ChangesItem slot_map_set (goal.F-step g)) _ _ c.loop-index.index _ _ _ _ value at.visited c.value_mut.ensures.value (left, called, refl)
          (SettlesPlace-slot_map_set_at _ _ left _ refl);
      keys = λ key. (λ held. (at.keys key).0 ((same key).0 held), λ held. (same key).1 ((at.keys key).1 held));
      free = at.free;
      generations = at.generations;
      dead = λ key dead. IsDead-slot_map_set_at c.loop-index.self c.loop-index.index value left c.value_mut.ensures.value key (at.dead key dead);
    }

pub returns-clause-mapped : goal.returns-clause-mapped
returns-clause-mapped g c change changes =
    let end = c.loop-index-test.false in
    let all = c.capacity-index-end.ensures.value in
    let past : length c.args.self.now.slots.values ≤ c.loop-index.index = omega (arith, end, all) in
    ChangesItem-keys_map _ _ _ _ (goal.F-step g) (λ key. change) changes (VisitedPlaces-all (ChangesItem slot_map_set (goal.F-step g)) _ _ _ _ _ c.loop-index.invariant.visited past)
