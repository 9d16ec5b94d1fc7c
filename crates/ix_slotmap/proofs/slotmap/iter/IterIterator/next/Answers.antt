use Rattle.std.proofs.Common.{◌+◌, ◌∷◌, sym, ap, ◌∙◌}
use Rattle.ix_slottable.proofs.KeyRanges.{items-from, MakesProgress-first}
use Rattle.ix_slotmap.proofs.HeldRanges.{held_of, held_of-append, held_within, FirstHeld, first_held}
use Rattle.ix_slotmap.proofs.slotmap.iter.IterIterator.next.Goals as goal

pub held_from-index-requires : goal.held_from-index-requires
held_from-index-requires g c =
    let s = c.self.inside.map.now in items-from (held_of s) (held_of-append s) s.slots.values _ _ _ c.self.invariant c.if-self-eq0.false

first : (g : _) (c : goal.After-value_at g) → FirstHeld c.self.inside.map.now c.held_from-index.result c.value_at.result.now c.self.inside.index c.self.inside.end c.self.inside.left
first g c =
    first_held c.self.inside.map.now _ _ _ _ _ c.self.invariant c.if-self-eq0.false c.value_at.ensures c.held_from-index.ensures.entries

pub invariant_of-self : goal.invariant_of-self
invariant_of-self g c = (first g c).rest

pub returns-clause-steps : goal.returns-clause-steps
returns-clause-steps g c =
    let rest = held_within c.self.inside.map.now (c.held_from-index.result + 1) c.self.inside.end in
    sym c.self.view_is ∙ (first g c).entries ∙ ap (λ key. (key, c.value_at.result.now) ∷ rest) (sym c.key_of-key.ensures.value)

pub returns-clause-goes : goal.returns-clause-goes
returns-clause-goes g c = MakesProgress-first _ _ _ _ _ tt (returns-clause-steps g c)
