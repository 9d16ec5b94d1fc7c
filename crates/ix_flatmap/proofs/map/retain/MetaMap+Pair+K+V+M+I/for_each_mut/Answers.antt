use Rattle.std.proofs.Common.{◌+◌, sym, ap, ◌∙◌, subst, arith}
use Rattle.std.proofs.lemmas.Bool.{iff_false}
use Rattle.ix_tables.proofs.Places.{held_item, none_of_not_some}
use Rattle.ix_slottable.specs.SlotTableState.{value_at}
use Rattle.ix_slottable.specs.SlotTableCalls.{ChangesItem}
use Rattle.ix_flatmap.specs.MapSteps.{map_set}
use Rattle.ix_flatmap.specs.MapCalls.{CallAtKey, TakesKey}
use Rattle.ix_slottable.proofs.SlotTableCalls.{Settles-slot_table_set, Visited, Visited-free, Visited-held}
use Rattle.ix_flatmap.proofs.MapCalls.{AtPlace, SameKeys-set, SameKeys-both, map_keys-same, map_set-at, Visited-bounded, Visited-takes}
use Rattle.ix_flatmap.proofs.MapOutcomes.{map_items-map, map_value-map}
use Rattle.ix_flatmap.proofs.map.retain.MetaMap+Pair+K+V+M+I.for_each_mut.Goals as goal

pub loop-number-preserved-then-not-has_pair : goal.loop-number-preserved-then-not-has_pair
loop-number-preserved-then-not-has_pair g c =
    let at = c.loop-number.invariant in
    let below = c.loop-number-test.true in
    let within = c.bound-number-end.ensures.bound.within in
    record {
      visited = Visited-free (AtPlace (ChangesItem (map_set g.K.PartialEq.eq) (CallAtKey (goal.F-step g)))) _ _ c.loop-number.number _ _ at.visited (omega (arith, below, within))
          (ap (value_at c.loop-number.self) (sym c.new-place.ensures) ∙ none_of_not_some _ (iff_false c.has_pair.ensures.value c.if-not-has_pair.true));
      keys = at.keys;
      free = at.free;
      distinct = at.distinct;
    }

pub call_at-requires-clause-callable : goal.call_at-requires-clause-callable
call_at-requires-clause-callable g c pair shown at is =
    Visited-takes (ChangesItem (map_set g.K.PartialEq.eq) (CallAtKey (goal.F-step g))) _ _ (CallAtKey (goal.F-step g)) (TakesKey (goal.F-pre g)) c.new-place.result _ _ pair shown (λ p q x step. (tt, step.0, step.1)) c.requires
    (subst (λ n. Visited (AtPlace (ChangesItem (map_set g.K.PartialEq.eq) (CallAtKey (goal.F-step g)))) c.args.f c.args.self.now n c.loop-number.f c.loop-number.self) (sym c.new-place.ensures) c.loop-number.invariant.visited) at is

pub loop-number-preserved : goal.loop-number-preserved
loop-number-preserved g c =
    let eq = g.K.PartialEq.eq in
    let now = c.loop-number.self in
    let new = c.call_at.new.self in
    let held = held_item (value_at now c.new-place.result) (c.has_pair.ensures.value.0 c.if-not-has_pair.false) in
    let pair = held.0 in
    let at = held.1 in
    let call = c.call_at.ensures.called pair at in
    let left = call.0 in
    let before = subst (λ n. Visited (AtPlace (ChangesItem (map_set g.K.PartialEq.eq) (CallAtKey (goal.F-step g)))) c.args.f c.args.self.now n c.loop-number.f now) (sym c.new-place.ensures) c.loop-number.invariant.visited in
    record {
      visited = subst (λ n. Visited (AtPlace (ChangesItem (map_set g.K.PartialEq.eq) (CallAtKey (goal.F-step g)))) c.args.f c.args.self.now (n + 1) c.call_at.new.f new) c.new-place.ensures
          (Visited-held (AtPlace (ChangesItem (map_set eq) (CallAtKey (goal.F-step g)))) _ _ c.new-place.result _ _ _ _ pair before at
          (left, call.1, call.2 ∙ sym (map_set-at eq g.met.K.Eq.laws now c.loop-number.invariant.distinct c.new-place.result pair at left))
          (Settles-slot_table_set _ _ (record pair { value = left }) new call.2));
      keys = SameKeys-both c.args.self.now now new c.loop-number.invariant.keys (SameKeys-set now new c.new-place.result pair left at call.2);
      free = ap (λ (s : _). s.free) call.2 ∙ c.loop-number.invariant.free;
      distinct = c.call_at.ensures.distinct;
    }

pub returns-clause-calls : goal.returns-clause-calls
returns-clause-calls g c =
    let done = c.loop-number-test.false in (
      c.loop-number.f,
      Visited-bounded (ChangesItem (map_set g.K.PartialEq.eq) (CallAtKey (goal.F-step g))) _ _ c.loop-number.number _ _ c.loop-number.invariant.visited
          (λ place past. c.bound-number-end.ensures.bound.beyond place (omega (arith, done, past))),
    )

pub returns-clause-keys : goal.returns-clause-keys
returns-clause-keys g c = map_keys-same c.args.self.now c.loop-number.self c.loop-number.invariant.visited.capacity c.loop-number.invariant.keys

pub returns-clause-mapped : goal.returns-clause-mapped
returns-clause-mapped g c change changes =
    map_items-map g.K.PartialEq.eq g.met.K.Eq.laws _ _ c.bound-number-end.ensures.distinct _ _ (goal.F-step g) change changes (returns-clause-calls g c).1 c.loop-number.invariant.visited.capacity

pub returns-clause-values : goal.returns-clause-values
returns-clause-values g c change changes =
    map_value-map g.K.PartialEq.eq g.met.K.Eq.laws _ _ c.bound-number-end.ensures.distinct _ _ c.loop-number.invariant.distinct (goal.F-step g) change changes (returns-clause-calls g c).1
