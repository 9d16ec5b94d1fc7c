use Rattle.std.proofs.Common.{◌≡◌, [], ◌∷◌, ◌++◌, Some, sym, ap, ◌∙◌, subst}
use Rattle.std.specs.Prelude.{slice_range}
use Rattle.ix_slottable.specs.SlotTableState.{value_at, entries_from}
use Rattle.ix_slottable.proofs.SlotTableCalls.{entries_from-append}
use Rattle.ix_slottable.proofs.KeyRanges.{items-before, LastEntry, last_entry, MakesProgress-last}
use Rattle.ix_slottable.proofs.slottable.iter.IterDoubleEndedIterator.next_back.Goals as goal

pub held_before-key-requires-clause-some : goal.held_before-key-requires-clause-some
held_before-key-requires-clause-some g c =
    items-before entries_from entries_from-append c.self.inside.map.now.values _ _ _ c.self.invariant c.if-self-eq0.false

last : (g : _) (c : goal.After-get_unchecked g)
    → LastEntry c.self.inside.map.now.values c.held_before-key.result c.get_unchecked.result.now c.self.inside.key c.self.inside.end c.self.inside.left
last g c =
    let s = c.self.inside.map.now in
    let at = subst (λ n. value_at s n ≡ Some c.get_unchecked.result.now) c.new-key.ensures c.get_unchecked.ensures in
    let found = c.held_before-key.ensures in
    last_entry s.values _ _ _ _ _ c.self.invariant c.if-self-eq0.false at found.below found.entries

pub invariant_of-self : goal.invariant_of-self
invariant_of-self g c = (last g c).rest

pub returns-clause-steps : goal.returns-clause-steps
returns-clause-steps g c =
    let key = c.self.inside.key in
    let rest = entries_from key (slice_range c.self.inside.map.now.values key c.held_before-key.result) in
    sym c.self.view_is ∙ (last g c).entries ∙ ap (λ n. rest ++ (n, c.get_unchecked.result.now) ∷ []) (sym c.new-key.ensures)

pub returns-clause-goes : goal.returns-clause-goes
returns-clause-goes g c = MakesProgress-last _ _ _ _ _ tt (returns-clause-steps g c)
