use Rattle.std.proofs.Common.{Option, true, ◌≡◌, ◌/◌, sym, subst, ap, ◌∙◌, arith}
use Rattle.ix_slottable.specs.SlotTableState.{IsFree}
use Rattle.ix_slottable.specs.SlotTableSteps.{SlotTableInsertAt}
use Rattle.ix_slotmap.specs.Generations.{SlotMapState, generation_at, slot_map_len}
use Rattle.ix_slotmap.proofs.Words.{word_within, free_word, state_of, fills}
use Rattle.ix_slotmap.proofs.SlotMapCounts.{slot_map_len-slot_map_fill}
use Rattle.ix_slotmap.proofs.slotmap.places.MetaSlotMap+T+MaybeMoved+T+M.fill.Goals as goal

pub raise-requires-clause-fits : goal.raise-requires-clause-fits
raise-requires-clause-fits g c =
    let free = subst (λ (s : SlotMapState g.row.T.Denot). IsFree s.slots c.args.index) (sym c.self.view_is) c.requires in
    let most = word_within c.self.inside.slots c.self.inside.words c.self.inside.retired c.self.invariant c.args.index free.0 in omega (arith, most)

pub invariant_of-self : goal.invariant_of-self
invariant_of-self g c =
    (fills c.self.inside.slots c.self.inside.words c.self.inside.retired c.self.invariant c.args.self.now c.self.view_is c.args.index c.new-place.result c.new-place.ensures _ _ c.args.value c.requires (subst (λ (content : Option g.row.T.Denot). SlotTableInsertAt c.self.inside.slots c.new-place.result content c.insert_at_unchecked_counted.new.self true) c.new.ensures c.insert_at_unchecked_counted.ensures.step) c.raise.ensures.table).0

pub returns-clause-map : goal.returns-clause-map
returns-clause-map g c =
    (fills c.self.inside.slots c.self.inside.words c.self.inside.retired c.self.invariant c.args.self.now c.self.view_is c.args.index c.new-place.result c.new-place.ensures _ _ c.args.value c.requires (subst (λ (content : Option g.row.T.Denot). SlotTableInsertAt c.self.inside.slots c.new-place.result content c.insert_at_unchecked_counted.new.self true) c.new.ensures c.insert_at_unchecked_counted.ensures.step) c.raise.ensures.table).1

pub overflow_cast-result : goal.overflow_cast-result
overflow_cast-result g c =
    let free = subst (λ (s : SlotMapState g.row.T.Denot). IsFree s.slots c.args.index) (sym c.self.view_is) c.requires in
    let word = free_word c.self.inside.slots c.self.inside.words c.self.inside.retired c.self.invariant c.args.index free.0 free.1 in
    let raised = c.raise.ensures.value in omega (arith, word.0, word.1, raised)

pub returns-clause-generation : goal.returns-clause-generation
returns-clause-generation g c =
    let free = subst (λ (s : SlotMapState g.row.T.Denot). IsFree s.slots c.args.index) (sym c.self.view_is) c.requires in
    let word = free_word c.self.inside.slots c.self.inside.words c.self.inside.retired c.self.invariant c.args.index free.0 free.1 in
    let raised = c.raise.ensures.value in
    let half : c.raise.result / 2 ≡ generation_at (state_of c.self.inside.slots c.self.inside.words) c.args.index = omega (arith, word.0, raised) in
    half ∙ ap (λ (s : SlotMapState g.row.T.Denot). generation_at s c.args.index) c.self.view_is

pub returns-clause-count : goal.returns-clause-count
returns-clause-count g c = ap slot_map_len (returns-clause-map g c) ∙ slot_map_len-slot_map_fill c.args.self.now c.args.index c.args.value c.requires
