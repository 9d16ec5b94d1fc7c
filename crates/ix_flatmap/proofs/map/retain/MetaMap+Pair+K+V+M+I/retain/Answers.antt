use Rattle.std.proofs.Common.{◌≡◌, ◌+◌, refl, sym, ap, ◌∙◌, subst, arith}
use Rattle.std.proofs.lemmas.Bool.{iff_false}
use Rattle.ix_tables.proofs.Places.{held_item, none_of_not_some}
use Rattle.std.specs.Prelude.{if◌then◌else◌, Bool}
use Rattle.ix_slottable.specs.SlotTableState.{SlotTableState, value_at}
use Rattle.ix_slottable.specs.SlotTableSteps.{slot_table_set, slot_table_remove}
use Rattle.ix_flatmap.specs.MapState.{HasDistinctKeys}
use Rattle.ix_flatmap.specs.declared.map.pair.Pair.{Pair}
use Rattle.ix_slottable.specs.SlotTableCalls.{RetainsItem}
use Rattle.ix_flatmap.specs.MapSteps.{map_set, map_remove}
use Rattle.ix_flatmap.specs.MapCalls.{CallAtKey, TakesKey}
use Rattle.ix_slottable.proofs.Counts.{Thins-refl, Thins-trans, Thins-retained}
use Rattle.ix_slottable.proofs.SlotTableCalls.{slot_table_remove-slot_table_set, Settles-retained, Visited, Visited-free, Visited-held}
use Rattle.ix_flatmap.proofs.MapCalls.{AtPlace, SameKeys-set, KeysWere, KeysWere-same, KeysWere-vacated, KeysWere-both, IsSome-map_value, map_retained, Visited-bounded, Visited-takes}
use Rattle.ix_flatmap.proofs.MapOutcomes.{map_items-filter, map_value-filter}
use Rattle.ix_flatmap.proofs.map.retain.MetaMap+Pair+K+V+M+I.retain.Goals.{then-not-call_at, else-not-call_at}
use Rattle.ix_flatmap.proofs.map.retain.MetaMap+Pair+K+V+M+I.retain.Goals as goal

pub loop-number-init : goal.loop-number-init
loop-number-init g c = record {
  visited = record { capacity = refl; calls = refl; rest = λ place past. refl };
  keys = λ place pair at. (pair, at, refl);
  distinct = c.bound-number-end.ensures.distinct;
  thins = Thins-refl c.args.self.now;
}

pub loop-number-preserved-then-not-has_pair : goal.loop-number-preserved-then-not-has_pair
loop-number-preserved-then-not-has_pair g c =
    let at = c.loop-number.invariant in
    let below = c.loop-number-test.true in
    let within = c.bound-number-end.ensures.bound.within in
    record {
      visited = Visited-free (AtPlace (RetainsItem (map_set g.K.PartialEq.eq) (map_remove g.K.PartialEq.eq) (CallAtKey (goal.F-step g)))) _ _ c.loop-number.number _ _ at.visited (omega (arith, below, within))
          (ap (value_at c.loop-number.self) (sym c.new-place.ensures) ∙ none_of_not_some _ (iff_false c.has_pair.ensures.value c.if-not-has_pair.true));
      keys = at.keys;
      distinct = at.distinct;
      thins = at.thins;
    }

pub call_at-requires-clause-callable : goal.call_at-requires-clause-callable
call_at-requires-clause-callable g c pair shown at is =
    Visited-takes (RetainsItem (map_set g.K.PartialEq.eq) (map_remove g.K.PartialEq.eq) (CallAtKey (goal.F-step g))) _ _ (CallAtKey (goal.F-step g)) (TakesKey (goal.F-pre g)) c.new-place.result _ _ pair shown (λ p q x step. (step.0, step.1, step.2)) c.requires
    (subst (λ n. Visited (AtPlace (RetainsItem (map_set g.K.PartialEq.eq) (map_remove g.K.PartialEq.eq) (CallAtKey (goal.F-step g)))) c.args.f c.args.self.now n c.loop-number.f c.loop-number.self) (sym c.new-place.ensures) c.loop-number.invariant.visited) at is

pub loop-number-preserved : goal.loop-number-preserved
loop-number-preserved g c =
    let eq = g.K.PartialEq.eq in
    let now = c.loop-number.self in
    let called = c.call_at.new.self in
    let settled_map = c.if-not-call_at.self in
    let place = c.new-place.result in
    let held = held_item (value_at now place) (c.has_pair.ensures.value.0 c.if-not-has_pair.false) in
    let pair = held.0 in
    let at = held.1 in
    let call = c.call_at.ensures.called pair at in
    let left = call.0 in
    let pair_left : Pair g.row.K.Denot g.row.V.Denot = record { key = pair.key; value = left } in
    let written = KeysWere-same now called (SameKeys-set now called place pair left at call.2) in
    let kept : Bool → SlotTableState (Pair g.row.K.Denot g.row.V.Denot) = λ keep. if keep then slot_table_set now place pair_left else slot_table_remove now place in
    let settled : (settled_map ≡ kept c.call_at.result) × KeysWere now settled_map × HasDistinctKeys eq settled_map =
    elim c.if-not-call_at.branch [
      | then-not-call_at w ↦ (
        w.self-is ∙ w.remove_at.ensures.step.map ∙ ap (λ (s : SlotTableState (Pair g.row.K.Denot g.row.V.Denot)). slot_table_remove s place) call.2 ∙ slot_table_remove-slot_table_set now place pair pair_left at ∙ sym (ap kept w.if-not-call_at.true),
        subst (λ m. KeysWere now m) (sym w.self-is) (KeysWere-both now called w.remove_at.new.self written (KeysWere-vacated called w.remove_at.new.self place w.remove_at.result w.remove_at.ensures.step)),
        subst (λ m. HasDistinctKeys eq m) (sym w.self-is) w.remove_at.ensures.distinct,
      )
      | else-not-call_at w ↦ (
        w.self-is ∙ call.2 ∙ sym (ap kept w.if-not-call_at.false),
        subst (λ m. KeysWere now m) (sym w.self-is) written,
        subst (λ m. HasDistinctKeys eq m) (sym w.self-is) c.call_at.ensures.distinct,
      )
    ] in
    let before = subst (λ n. Visited (AtPlace (RetainsItem (map_set eq) (map_remove eq) (CallAtKey (goal.F-step g)))) c.args.f c.args.self.now n c.loop-number.f now) (sym c.new-place.ensures) c.loop-number.invariant.visited in
    record {
      visited = subst (λ n. Visited (AtPlace (RetainsItem (map_set eq) (map_remove eq) (CallAtKey (goal.F-step g)))) c.args.f c.args.self.now (n + 1) c.call_at.new.f settled_map) c.new-place.ensures
          (Visited-held (AtPlace (RetainsItem (map_set eq) (map_remove eq) (CallAtKey (goal.F-step g)))) _ _ place _ _ now settled_map pair before at
          (c.call_at.result, left, call.1, settled.0 ∙ map_retained eq g.met.K.Eq.laws now c.loop-number.invariant.distinct place pair at left c.call_at.result)
          (Settles-retained now place pair_left c.call_at.result settled_map settled.0));
      keys = KeysWere-both c.args.self.now now settled_map c.loop-number.invariant.keys settled.1;
      distinct = settled.2;
      thins = Thins-trans _ _ _ c.loop-number.invariant.thins (Thins-retained now place pair pair_left c.call_at.result settled_map at settled.0);
    }

pub returns-clause-calls : goal.returns-clause-calls
returns-clause-calls g c =
    let done = c.loop-number-test.false in (
      c.loop-number.f,
      Visited-bounded (RetainsItem (map_set g.K.PartialEq.eq) (map_remove g.K.PartialEq.eq) (CallAtKey (goal.F-step g))) _ _ c.loop-number.number _ _ c.loop-number.invariant.visited
          (λ place past. c.bound-number-end.ensures.bound.beyond place (omega (arith, done, past))),
    )

pub returns-clause-keys : goal.returns-clause-keys
returns-clause-keys g c =
    IsSome-map_value g.K.PartialEq.eq g.met.K.Eq.laws c.args.self.now c.loop-number.self c.bound-number-end.ensures.distinct c.loop-number.invariant.keys

pub returns-clause-filtered : goal.returns-clause-filtered
returns-clause-filtered g c test tests =
    map_items-filter g.K.PartialEq.eq g.met.K.Eq.laws _ _ c.bound-number-end.ensures.distinct _ _ (goal.F-step g) (λ key value. test (key, value)) tests (returns-clause-calls g c).1 c.loop-number.invariant.visited.capacity

pub returns-clause-values : goal.returns-clause-values
returns-clause-values g c test tests =
    map_value-filter g.K.PartialEq.eq g.met.K.Eq.laws _ _ c.bound-number-end.ensures.distinct _ _ c.loop-number.invariant.distinct (goal.F-step g) test tests (returns-clause-calls g c).1
