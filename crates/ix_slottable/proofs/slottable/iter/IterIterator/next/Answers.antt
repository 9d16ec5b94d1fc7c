use Rattle.std.proofs.Common.{◌≡◌, ◌+◌, ◌∷◌, Some, sym, ap, ◌∙◌, subst}
use Rattle.std.specs.Prelude.{slice_range}
use Rattle.ix_slottable.specs.SlotTableState.{value_at, entries_from}
use Rattle.ix_slottable.proofs.SlotTableCalls.{entries_from-append}
use Rattle.ix_slottable.proofs.KeyRanges.{items-from, FirstEntry, first_entry, MakesProgress-first}
use Rattle.ix_slottable.proofs.slottable.iter.IterIterator.next.Goals as goal

pub held_from-key-requires : goal.held_from-key-requires
held_from-key-requires g c =
    items-from entries_from entries_from-append c.self.inside.map.now.values _ _ _ c.self.invariant c.if-self-eq0.false

first : (g : _) (c : goal.After-get_unchecked g)
    → FirstEntry c.self.inside.map.now.values c.held_from-key.result c.get_unchecked.result.now c.self.inside.key c.self.inside.end c.self.inside.left
first g c =
    let s = c.self.inside.map.now in
    let at = subst (λ n. value_at s n ≡ Some c.get_unchecked.result.now) c.new-key.ensures c.get_unchecked.ensures in
    first_entry s.values _ _ _ _ _ c.self.invariant c.if-self-eq0.false at c.held_from-key.ensures.entries

pub invariant_of-self : goal.invariant_of-self
invariant_of-self g c = (first g c).rest

pub returns-clause-steps : goal.returns-clause-steps
returns-clause-steps g c =
    let next = c.held_from-key.result + 1 in
    let rest = entries_from next (slice_range c.self.inside.map.now.values next c.self.inside.end) in
    sym c.self.view_is ∙ (first g c).entries ∙ ap (λ n. (n, c.get_unchecked.result.now) ∷ rest) (sym c.new-key.ensures)

pub returns-clause-goes : goal.returns-clause-goes
returns-clause-goes g c = MakesProgress-first _ _ _ _ _ tt (returns-clause-steps g c)
