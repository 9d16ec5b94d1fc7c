use Rattle.std.proofs.Common.{◌<◌, ◌↔◌, ◌%◌, length, nat_eq, nat_lt, sym, subst, arith}
use Rattle.std.specs.Prelude.{IsTrue}
use Rattle.std.proofs.lemmas.Bool.{ltb-true, lt-ltb, eqb-true}
use Rattle.ix_slottable.specs.SlotTableState.{IsFree}
use Rattle.ix_slotmap.specs.Generations.{SlotMapState}
use Rattle.ix_slotmap.specs.inner.Words.{retired_word}
use Rattle.ix_slotmap.proofs.Words.{free_by_word}
use Rattle.ix_slotmap.proofs.slotmap.places.MetaSlotMap+T+MaybeMoved+T+M.is_free.Goals as goal

pub returns-then-word-eq0-clause-value : goal.returns-then-word-eq0-clause-value
returns-then-word-eq0-clause-value g c =
    let below = subst (λ (s : SlotMapState g.row.T.Denot). c.args.index < length s.slots.values) (sym c.self.view_is) c.requires.within in
    let word = c.get-word.ensures.value in
    let test = c.if-word-eq0.true in
    let free = free_by_word c.self.inside.slots c.self.inside.words c.self.inside.retired c.self.invariant c.args.index below in
    subst (λ (s : SlotMapState g.row.T.Denot). IsTrue (nat_lt c.get-word.result retired_word) ↔ IsFree s.slots c.args.index) c.self.view_is
    (λ yes. (below, free.0 (let less = ltb-true _ _ yes in (omega (arith, word, test), omega (arith, word, less)))), λ is. lt-ltb _ _ (let less = (free.1 is.1).1 in omega (arith, word, less)))

pub returns-else-word-eq0-clause-value : goal.returns-else-word-eq0-clause-value
returns-else-word-eq0-clause-value g c =
    let below = subst (λ (s : SlotMapState g.row.T.Denot). c.args.index < length s.slots.values) (sym c.self.view_is) c.requires.within in
    let word = c.get-word.ensures.value in
    let test = c.if-word-eq0.false in
    let free = free_by_word c.self.inside.slots c.self.inside.words c.self.inside.retired c.self.invariant c.args.index below in
    subst (λ (s : SlotMapState g.row.T.Denot). IsTrue (nat_eq (c.get-word.result % 2) 0) ↔ IsFree s.slots c.args.index) c.self.view_is
    (λ yes. absurd (let even = eqb-true _ _ yes in test even), λ is. absurd (let even = (free.1 is.1).0 in test (omega (arith, word, even))))
