use Rattle.std.proofs.Common.{◌+◌, ◌∷◌, Some, sym, ap, ◌∙◌, subst}
use Rattle.std.specs.Prelude.{slice_range}
use Rattle.ix_slottable.specs.SlotTableState.{entries_from}
use Rattle.ix_slottable.specs.SlotTableSteps.{SlotTableRemove}
use Rattle.ix_slottable.proofs.SlotTableCalls.{entries_from-append}
use Rattle.ix_slottable.proofs.KeyRanges.{items-from, taken_first, IsKeyRange-taken_first, MakesProgress-first}
use Rattle.ix_slottable.proofs.slottable.into_iter.IntoIterIterator.next.Goals as goal

pub held_from-number-requires : goal.held_from-number-requires
held_from-number-requires g c =
    items-from entries_from entries_from-append c.self.inside.map.values _ _ _ c.self.invariant
    (λ none. (let empty = c.is_empty.ensures.value.1 none in let some = c.if-is_empty.false in absurd (cc)))

step : (g : _) (c : goal.After-remove_unchecked g)
    → SlotTableRemove c.self.inside.map c.held_from-number.result c.remove_unchecked.new.self (Some c.remove_unchecked.result)
step g c =
    let value = c.remove_unchecked.result in
    subst (λ n. SlotTableRemove c.self.inside.map n c.remove_unchecked.new.self (Some value)) c.new-key.ensures c.remove_unchecked.ensures.step

pub invariant_of-self : goal.invariant_of-self
invariant_of-self g c = IsKeyRange-taken_first _ _ _ _ (step g c) _ _ c.self.invariant c.held_from-number.ensures.entries

pub returns-clause-steps : goal.returns-clause-steps
returns-clause-steps g c =
    let next = c.held_from-number.result + 1 in
    let rest = entries_from next (slice_range c.remove_unchecked.new.self.values next c.self.inside.end) in
    sym c.self.view_is
    ∙ taken_first _ _ _ _ (step g c) _ _ c.self.invariant c.held_from-number.ensures.entries
    ∙ ap (λ n. (n, c.remove_unchecked.result) ∷ rest) (sym c.new-key.ensures)

pub returns-clause-goes : goal.returns-clause-goes
returns-clause-goes g c = MakesProgress-first _ _ _ _ _ tt (returns-clause-steps g c)
