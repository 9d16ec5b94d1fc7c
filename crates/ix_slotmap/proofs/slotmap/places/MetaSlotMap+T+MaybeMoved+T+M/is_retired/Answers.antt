use Rattle.std.proofs.Common.{◌<◌, ◌↔◌, ℕ, length, nat_eq, sym, subst}
use Rattle.std.specs.Prelude.{IsTrue}
use Rattle.ix_slotmap.specs.Generations.{SlotMapState, IsRetired}
use Rattle.ix_slotmap.specs.inner.Words.{retired_word}
use Rattle.ix_slotmap.proofs.Words.{state_of, retired_by_word}
use Rattle.ix_slotmap.proofs.slotmap.places.MetaSlotMap+T+MaybeMoved+T+M.is_retired.Goals as goal

pub returns-clause-value : goal.returns-clause-value
returns-clause-value g c =
    let below = subst (λ (s : SlotMapState g.row.T.Denot). c.args.index < length s.slots.values) (sym c.self.view_is) c.requires.within in
    subst (λ (s : SlotMapState g.row.T.Denot). IsTrue (nat_eq c.get.result retired_word) ↔ IsRetired s c.args.index) c.self.view_is
    (subst (λ (word : ℕ). IsTrue (nat_eq word retired_word) ↔ IsRetired (state_of c.self.inside.slots c.self.inside.words) c.args.index) (sym c.get.ensures.value)
    (retired_by_word c.self.inside.slots c.self.inside.words c.self.inside.retired c.self.invariant c.args.index below))
