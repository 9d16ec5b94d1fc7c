use Rattle.std.proofs.Common.{length, sym, subst, ap, IsSome, arith, ◌∙◌}
use Rattle.ix_slottable.specs.SlotTableSteps.{slot_table_set}
use Rattle.ix_slotmap.specs.Generations.{SlotMapState, place_value}
use Rattle.ix_slotmap.proofs.Words.{room_to_retire, word_fits, removes, removes_last}
use Rattle.ix_slotmap.proofs.slotmap.places.MetaSlotMap+T+MaybeMoved+T+M.remove_held.Goals as goal

pub raise-requires-clause-fits : goal.raise-requires-clause-fits
raise-requires-clause-fits g c =
    word_fits c.self.inside.slots c.self.inside.words c.self.inside.retired c.self.invariant c.args.self.now c.self.view_is c.args.index c.new-place.result c.new-place.ensures c.self.inside.slots c.self.inside.words c.requires.held

pub overflow_add-self : goal.overflow_add-self
overflow_add-self g c =
    let room = room_to_retire c.self.inside.slots c.self.inside.words c.self.inside.retired c.self.invariant c.args.index (subst (λ (s : SlotMapState g.row.T.Denot). IsSome (place_value s c.args.index)) (sym c.self.view_is) c.requires.held) in
    let same = ap (λ (s : SlotMapState g.row.T.Denot). length s.slots.values) c.self.view_is in
    let fits = c.requires.fits in omega (arith, room, same, fits)

pub invariant_of-self : goal.invariant_of-self
invariant_of-self g c =
    (removes_last c.self.inside.slots c.self.inside.words c.self.inside.retired c.self.invariant c.args.self.now c.self.view_is c.args.index c.new-place.result c.new-place.ensures _ _ c.requires.held _ _ (sym c.raise.ensures.value ∙ c.if-raise-eq-RETIRED.true) c.get_unchecked_mut_counted.ensures.value c.take.ensures.value (ap (slot_table_set c.self.inside.slots c.new-place.result) c.take.ensures.place) c.raise.ensures.table).0

pub returns-then-raise-eq-RETIRED-clause-step : goal.returns-then-raise-eq-RETIRED-clause-step
returns-then-raise-eq-RETIRED-clause-step g c =
    (removes_last c.self.inside.slots c.self.inside.words c.self.inside.retired c.self.invariant c.args.self.now c.self.view_is c.args.index c.new-place.result c.new-place.ensures _ _ c.requires.held _ _ (sym c.raise.ensures.value ∙ c.if-raise-eq-RETIRED.true) c.get_unchecked_mut_counted.ensures.value c.take.ensures.value (ap (slot_table_set c.self.inside.slots c.new-place.result) c.take.ensures.place) c.raise.ensures.table).1

pub invariant_of-self-2 : goal.invariant_of-self-2
invariant_of-self-2 g c =
    (removes c.self.inside.slots c.self.inside.words c.self.inside.retired c.self.invariant c.args.self.now c.self.view_is c.args.index c.new-place.result c.new-place.ensures _ _ c.requires.held _ _ (λ same. c.if-raise-eq-RETIRED.false (c.raise.ensures.value ∙ same)) c.remove_unchecked_counted.ensures.step c.into_item.ensures c.raise.ensures.table).0

pub returns-clause-step : goal.returns-clause-step
returns-clause-step g c =
    (removes c.self.inside.slots c.self.inside.words c.self.inside.retired c.self.invariant c.args.self.now c.self.view_is c.args.index c.new-place.result c.new-place.ensures _ _ c.requires.held _ _ (λ same. c.if-raise-eq-RETIRED.false (c.raise.ensures.value ∙ same)) c.remove_unchecked_counted.ensures.step c.into_item.ensures c.raise.ensures.table).1
