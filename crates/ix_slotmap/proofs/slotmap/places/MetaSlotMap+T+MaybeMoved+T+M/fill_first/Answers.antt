use Rattle.std.proofs.Common.{Option, Some, ◌≡◌, ◌/◌, subst, sym, ap, ◌∙◌, arith}
use Rattle.ix_slottable.specs.SlotTableState.{IsFree}
use Rattle.ix_slottable.specs.SlotTableSteps.{SlotTableInsert}
use Rattle.ix_slotmap.specs.Generations.{SlotMapState, generation_at}
use Rattle.ix_slotmap.proofs.Words.{word_within, free_word, state_of, inserts}
use Rattle.ix_slotmap.proofs.slotmap.places.MetaSlotMap+T+MaybeMoved+T+M.fill_first.Goals as goal

pub raise-word-requires-clause-fits : goal.raise-word-requires-clause-fits
raise-word-requires-clause-fits g c =
    let free = subst (IsFree c.self.inside.slots) (sym c.value.ensures) c.in-Ok.ensures.step.was_free in
    let most = word_within c.self.inside.slots c.self.inside.words c.self.inside.retired c.self.invariant c.value.result free.0 in omega (arith, most)

pub invariant_of-self : goal.invariant_of-self
invariant_of-self g c =
    (inserts c.self.inside.slots c.self.inside.words c.self.inside.retired c.self.invariant c.args.self.now c.self.view_is c.value.result c.in-Ok.place (sym c.value.ensures) _ _ c.args.value (subst (λ (content : Option g.row.T.Denot). SlotTableInsert c.self.inside.slots content c.try_insert_counted.new.self (Some c.in-Ok.place)) c.new.ensures c.in-Ok.ensures.step) c.raise-word.ensures.table).0

pub returns-in-Ok-clause-generations : goal.returns-in-Ok-clause-generations
returns-in-Ok-clause-generations g c =
    (inserts c.self.inside.slots c.self.inside.words c.self.inside.retired c.self.invariant c.args.self.now c.self.view_is c.value.result c.in-Ok.place (sym c.value.ensures) _ _ c.args.value (subst (λ (content : Option g.row.T.Denot). SlotTableInsert c.self.inside.slots content c.try_insert_counted.new.self (Some c.in-Ok.place)) c.new.ensures c.in-Ok.ensures.step) c.raise-word.ensures.table).1

pub overflow_cast-result : goal.overflow_cast-result
overflow_cast-result g c =
    let free = subst (IsFree c.self.inside.slots) (sym c.value.ensures) c.in-Ok.ensures.step.was_free in
    let word = free_word c.self.inside.slots c.self.inside.words c.self.inside.retired c.self.invariant c.value.result free.0 free.1 in
    let raised = c.raise-word.ensures.value in omega (arith, word.0, word.1, raised)

pub returns-in-Ok-clause-generation : goal.returns-in-Ok-clause-generation
returns-in-Ok-clause-generation g c =
    let free = subst (IsFree c.self.inside.slots) (sym c.value.ensures) c.in-Ok.ensures.step.was_free in
    let word = free_word c.self.inside.slots c.self.inside.words c.self.inside.retired c.self.invariant c.value.result free.0 free.1 in
    let raised = c.raise-word.ensures.value in
    let half : c.raise-word.result / 2 ≡ generation_at (state_of c.self.inside.slots c.self.inside.words) c.value.result = omega (arith, word.0, raised) in
    half ∙ ap (λ (s : SlotMapState g.row.T.Denot). generation_at s c.value.result) c.self.view_is ∙ ap (generation_at c.args.self.now) c.value.ensures
