use Rattle.std.proofs.Common.{[], ◌∷◌, ◌++◌, Some, sym, ap, ◌∙◌, subst}
use Rattle.std.specs.Prelude.{slice_range}
use Rattle.ix_slottable.specs.SlotTableState.{entries_from}
use Rattle.ix_slottable.specs.SlotTableSteps.{SlotTableRemove}
use Rattle.ix_slottable.proofs.SlotTableCalls.{entries_from-append}
use Rattle.ix_slottable.proofs.KeyRanges.{items-before, taken_last, IsKeyRange-taken_last, MakesProgress-last}
use Rattle.ix_slottable.proofs.slottable.into_iter.IntoIterDoubleEndedIterator.next_back.Goals as goal

pub held_before-number-requires-clause-some : goal.held_before-number-requires-clause-some
held_before-number-requires-clause-some g c =
    items-before entries_from entries_from-append c.self.inside.map.values _ _ _ c.self.invariant
    (λ none. (let empty = c.is_empty.ensures.value.1 none in let some = c.if-is_empty.false in absurd (cc)))

step : (g : _) (c : goal.After-remove_unchecked g)
    → SlotTableRemove c.self.inside.map c.held_before-number.result c.remove_unchecked.new.self (Some c.remove_unchecked.result)
step g c =
    let value = c.remove_unchecked.result in
    subst (λ n. SlotTableRemove c.self.inside.map n c.remove_unchecked.new.self (Some value)) c.new-key.ensures c.remove_unchecked.ensures.step

pub invariant_of-self : goal.invariant_of-self
invariant_of-self g c =
    let found = c.held_before-number.ensures in IsKeyRange-taken_last _ _ _ _ (step g c) _ _ c.self.invariant found.below found.entries

pub returns-clause-steps : goal.returns-clause-steps
returns-clause-steps g c =
    let found = c.held_before-number.ensures in
    let rest = entries_from c.self.inside.key (slice_range c.remove_unchecked.new.self.values c.self.inside.key c.held_before-number.result) in
    sym c.self.view_is
    ∙ taken_last _ _ _ _ (step g c) _ _ c.self.invariant found.below found.entries
    ∙ ap (λ n. rest ++ (n, c.remove_unchecked.result) ∷ []) (sym c.new-key.ensures)

pub returns-clause-goes : goal.returns-clause-goes
returns-clause-goes g c = MakesProgress-last _ _ _ _ _ tt (returns-clause-steps g c)
