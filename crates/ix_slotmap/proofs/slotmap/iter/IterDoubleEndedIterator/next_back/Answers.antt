use Rattle.std.proofs.Common.{[], ◌∷◌, ◌++◌, sym, ap, ◌∙◌}
use Rattle.ix_slottable.proofs.KeyRanges.{items-before, MakesProgress-last}
use Rattle.ix_slotmap.proofs.HeldRanges.{held_of, held_of-append, held_within, LastHeld, last_held}
use Rattle.ix_slotmap.proofs.slotmap.iter.IterDoubleEndedIterator.next_back.Goals as goal

pub held_before-index-requires-clause-some : goal.held_before-index-requires-clause-some
held_before-index-requires-clause-some g c =
    let s = c.self.inside.map.now in items-before (held_of s) (held_of-append s) s.slots.values _ _ _ c.self.invariant c.if-self-eq0.false

last : (g : _) (c : goal.After-value_at g) → LastHeld c.self.inside.map.now c.held_before-index.result c.value_at.result.now c.self.inside.index c.self.inside.end c.self.inside.left
last g c =
    let found = c.held_before-index.ensures in
    last_held c.self.inside.map.now _ _ _ _ _ c.self.invariant c.if-self-eq0.false c.value_at.ensures found.below found.entries

pub invariant_of-self : goal.invariant_of-self
invariant_of-self g c = (last g c).rest

pub returns-clause-steps : goal.returns-clause-steps
returns-clause-steps g c =
    let rest = held_within c.self.inside.map.now c.self.inside.index c.held_before-index.result in
    sym c.self.view_is ∙ (last g c).entries ∙ ap (λ key. rest ++ (key, c.value_at.result.now) ∷ []) (sym c.key_of-key.ensures.value)

pub returns-clause-goes : goal.returns-clause-goes
returns-clause-goes g c = MakesProgress-last _ _ _ _ _ tt (returns-clause-steps g c)
