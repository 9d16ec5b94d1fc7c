use Rattle.std.proofs.Common.{◌≡◌, ◌≤◌, length, inl, inr, refl, sym, ap, ◌∙◌, subst, arith}
use Rattle.std.specs.Prelude.{if◌then◌else◌, Bool}
use Rattle.std.proofs.lemmas.Bool.{iff_false}
use Rattle.ix_slotmap.specs.SlotMapSteps.{slot_map_set_at, slot_map_set, slot_map_remove, slot_map_remove_at}
use Rattle.ix_slottable.specs.SlotTableCalls.{CalledOn, RetainsItem}
use Rattle.ix_tables.proofs.Places.{none_of_not_some}
use Rattle.ix_slottable.proofs.SlotTableCalls.{CalledOn-from_step}
use Rattle.ix_slotmap.proofs.SlotMapCalls.{slot_map_remove_at-slot_map_set_at, SettlesPlace-retained, VisitedPlaces-without, VisitedPlaces-with, VisitedPlaces-callable, Outlives, Outlives-slot_map_set_at, Outlives-removed, Outlives-both, VisitedPlaces-all}
use Rattle.ix_slotmap.proofs.SlotMapCounts.{ThinsMap-trans, ThinsMap-retained}
use Rattle.ix_slotmap.proofs.SlotMapOutcomes.{RetainsItem-keys_filter}
use Rattle.ix_slotmap.proofs.slotmap.retain.MetaSlotMap+T+MaybeMoved+T+M.retain.Goals.{then-not-f, else-not-f}
use Rattle.ix_slotmap.proofs.slotmap.retain.MetaSlotMap+T+MaybeMoved+T+M.retain.Goals as goal

pub loop-index-preserved-then-not-has_value : goal.loop-index-preserved-then-not-has_value
loop-index-preserved-then-not-has_value g c =
    let at = c.loop-index.invariant in
    let below = c.loop-index-test.true in
    let all = c.capacity-index-end.ensures.value in
    record {
      visited = VisitedPlaces-without (RetainsItem slot_map_set slot_map_remove (goal.F-step g)) _ _ c.loop-index.index _ _ at.visited (omega (arith, below, all))
          (none_of_not_some _ (iff_false c.has_value.ensures.value c.if-not-has_value.true));
      removed = at.removed;
      dead = at.dead;
      thins = at.thins;
    }

pub f-requires : goal.f-requires
f-requires g c =
    VisitedPlaces-callable (RetainsItem slot_map_set slot_map_remove (goal.F-step g)) _ _ (goal.F-step g) (goal.F-pre g) c.loop-index.index _ _ _ _ (λ p q x step. (step.0, step.1, step.2)) c.requires
    c.loop-index.invariant.visited c.key_of-key.ensures.value c.value_mut.ensures.value

pub loop-index-preserved : goal.loop-index-preserved
loop-index-preserved g c =
    let at = c.loop-index.invariant in
    let now = c.loop-index.self in
    let index = c.loop-index.index in
    let value = c.value_mut.result.now in
    let left = c.f.new.arg3 in
    let here = c.value_mut.ensures.value in
    let written = Outlives-slot_map_set_at now index value left (slot_map_set_at now index left) here refl in
    let settled : (c.if-not-f.self ≡ (if c.f.result then slot_map_set_at now index left else slot_map_remove_at now index)) × Outlives now c.if-not-f.self =
    elim c.if-not-f.branch [
      | then-not-f w ↦
          let some = refl in (
            w.self-is ∙ w.remove_held.ensures.step.map ∙ slot_map_remove_at-slot_map_set_at now index value left here
                ∙ sym (ap (λ (b : Bool). if b then slot_map_set_at now index left else slot_map_remove_at now index) w.if-not-f.true),
            subst (Outlives now) (sym w.self-is) (Outlives-both now (slot_map_set_at now index left) w.remove_held.new.self written (Outlives-removed _ _ _ _ w.remove_held.ensures.step some)),
          )
      | else-not-f w ↦ (
        w.self-is ∙ sym (ap (λ (b : Bool). if b then slot_map_set_at now index left else slot_map_remove_at now index) w.if-not-f.false),
        subst (Outlives now) (sym w.self-is) written,
      )
    ] in
    let called = subst (λ key. CalledOn (goal.F-step g) c.loop-index.f key value c.f.result left c.f.new.self) c.key_of-key.ensures.value
    (CalledOn-from_step (goal.F-step g) _ _ c.value_mut.result c.f.result _ c.f.new.self c.f.ensures) in
    record {
      visited = VisitedPlaces-with (RetainsItem slot_map_set slot_map_remove (goal.F-step g)) _ _ index _ _ _ _ value at.visited here (c.f.result, left, called, settled.0)
          (SettlesPlace-retained _ _ left c.f.result _ settled.0);
      removed = λ key held. elim (at.removed key held) [
        | inl still ↦ settled.1.held key still
        | inr dead ↦ inr (settled.1.dead key dead)
      ];
      dead = λ key dead. settled.1.dead key (at.dead key dead);
      thins = ThinsMap-trans _ _ _ at.thins (ThinsMap-retained now index value left c.f.result _ here settled.0);
    }

pub returns-clause-filtered : goal.returns-clause-filtered
returns-clause-filtered g c test tests =
    let end = c.loop-index-test.false in
    let all = c.capacity-index-end.ensures.value in
    let past : length c.args.self.now.slots.values ≤ c.loop-index.index = omega (arith, end, all) in
    RetainsItem-keys_filter _ _ _ _ (goal.F-step g) (λ key. test) tests (VisitedPlaces-all (RetainsItem slot_map_set slot_map_remove (goal.F-step g)) _ _ _ _ _ c.loop-index.invariant.visited past)
