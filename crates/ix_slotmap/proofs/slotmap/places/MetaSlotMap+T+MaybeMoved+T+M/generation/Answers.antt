use Rattle.std.proofs.Common.{◌<◌, ◌/◌, length, sym, ap, ◌∙◌, subst, arith}
use Rattle.ix_slotmap.specs.Generations.{SlotMapState, generation_at, IsRetired}
use Rattle.ix_slotmap.proofs.Words.{generation_by_word}
use Rattle.ix_slotmap.proofs.slotmap.places.MetaSlotMap+T+MaybeMoved+T+M.generation.Goals as goal

pub overflow_cast-result : goal.overflow_cast-result
overflow_cast-result g c =
    let below = subst (λ (s : SlotMapState g.row.T.Denot). c.args.index < length s.slots.values) (sym c.self.view_is) c.requires.within in
    let in_use = subst (λ (s : SlotMapState g.row.T.Denot). IsRetired s c.args.index → ⊥) (sym c.self.view_is) c.requires.in_use in
    let generation = generation_by_word c.self.inside.slots c.self.inside.words c.self.inside.retired c.self.invariant c.args.index below in_use in
    let word = c.get.ensures.value in omega (arith, generation.0, generation.1, word)

pub returns-clause-value : goal.returns-clause-value
returns-clause-value g c =
    let below = subst (λ (s : SlotMapState g.row.T.Denot). c.args.index < length s.slots.values) (sym c.self.view_is) c.requires.within in
    let in_use = subst (λ (s : SlotMapState g.row.T.Denot). IsRetired s c.args.index → ⊥) (sym c.self.view_is) c.requires.in_use in
    ap (λ word. word / 2) c.get.ensures.value
    ∙ ((generation_by_word c.self.inside.slots c.self.inside.words c.self.inside.retired c.self.invariant c.args.index below in_use).0
    ∙ ap (λ (s : SlotMapState g.row.T.Denot). generation_at s c.args.index) c.self.view_is)
