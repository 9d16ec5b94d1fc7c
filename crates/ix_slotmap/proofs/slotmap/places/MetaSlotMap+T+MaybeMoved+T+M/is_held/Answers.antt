use Rattle.std.proofs.Common.{◌<◌, ◌↔◌, ◌+◌, ◌*◌, ℕ, length, nat_eq, IsSome, sym, ap, ◌∙◌, subst}
use Rattle.std.specs.Prelude.{IsTrue}
use Rattle.ix_slotmap.specs.Generations.{SlotMapState, slot_map_value}
use Rattle.ix_slotmap.specs.inner.Words.{word_at}
use Rattle.ix_slotmap.proofs.Words.{state_of, key_by_word}
use Rattle.ix_slotmap.proofs.slotmap.places.MetaSlotMap+T+MaybeMoved+T+M.is_held.Goals as goal

pub returns-then-index-capacity-clause-value : goal.returns-then-index-capacity-clause-value
returns-then-index-capacity-clause-value g c =
    let at = c.index-index.ensures in
    let below = subst (λ (s : SlotMapState g.row.T.Denot). c.args.key.index < length s.slots.values) (sym c.self.view_is)
    (subst (λ i. i < length c.args.self.now.slots.values) at (subst (λ n. c.index-index.result < n) c.capacity.ensures.value c.if-index-capacity.true)) in
    let word = c.get.ensures.value ∙ ap (word_at c.self.inside.words) at in
    subst (λ (s : SlotMapState g.row.T.Denot). IsTrue (nat_eq c.get.result (2 * c.generation.result + 1)) ↔ IsSome (slot_map_value s c.args.key)) c.self.view_is
    (subst (λ (n : ℕ). IsTrue (nat_eq n (2 * c.generation.result + 1)) ↔ IsSome (slot_map_value (state_of c.self.inside.slots c.self.inside.words) c.args.key)) (sym word)
    (subst (λ (n : ℕ). IsTrue (nat_eq (word_at c.self.inside.words c.args.key.index) (2 * n + 1)) ↔ IsSome (slot_map_value (state_of c.self.inside.slots c.self.inside.words) c.args.key)) (sym c.generation.ensures)
    (key_by_word c.self.inside.slots c.self.inside.words c.self.inside.retired c.self.invariant c.args.key below)))
