use Rattle.std.proofs.Common.{ap, sym, ◌∙◌, subst, arith}
use Rattle.ix_slottable.specs.SlotTableState.{value_at, IsHeld}
use Rattle.ix_hashmap.specs.inner.HashChains.{LeadsToKey}
use Rattle.ix_flatmap.proofs.MapEntries.{map_entry-IsEntry}
use Rattle.ix_hashmap.proofs.HashSteps.{LeadsToKey-held, LeadsToKey-next, LeadsToKey-end}
use Rattle.ix_hashmap.proofs.hashmap.search.find_from.Goals as goal

pub returns-then-first-len : goal.returns-then-first-len
returns-then-first-len g c =
    sym (LeadsToKey-end g.K.PartialEq.eq c.args.pairs.now c.args.chains.now c.args.key.now c.args.first c.requires.leads (omega (arith, c.if-first-len.true, c.len.ensures.value)))

pub get_unchecked-pair-requires : goal.get_unchecked-pair-requires
get_unchecked-pair-requires g c =
    subst (IsHeld c.args.pairs.now) (sym c.new-number.ensures)
    (LeadsToKey-held g.K.PartialEq.eq c.args.pairs.now c.args.chains.now c.args.key.now c.args.first c.requires.leads (omega (arith, c.if-first-len.false, c.len.ensures.value)))

pub returns-then-eq : goal.returns-then-eq
returns-then-eq g c =
    sym (map_entry-IsEntry g.K.PartialEq.eq g.met.K.Eq.laws c.args.pairs.now c.args.key.now c.new-number.result c.get_unchecked-pair.result.now c.requires.distinct
    (record { at = c.get_unchecked-pair.ensures; equal = sym c.eq.ensures ∙ c.if-eq.true }))

pub next-requires : goal.next-requires
next-requires g c = omega (arith, c.if-first-len.false, c.len.ensures.value)

pub find_later-requires-clause-leads : goal.find_later-requires-clause-leads
find_later-requires-clause-leads g c =
    subst (LeadsToKey g.K.PartialEq.eq c.args.pairs.now c.args.chains.now c.args.key.now) (sym c.next.ensures)
    (LeadsToKey-next g.K.PartialEq.eq c.args.pairs.now c.args.chains.now c.args.key.now c.args.first c.requires.leads (omega (arith, c.if-first-len.false, c.len.ensures.value)) c.get_unchecked-pair.result.now
    (ap (value_at c.args.pairs.now) (sym c.new-number.ensures) ∙ c.get_unchecked-pair.ensures) (sym c.eq.ensures ∙ c.if-eq.false))
