use Rattle.std.proofs.Common.{ℕ, ◌<◌, length, sym, ap, ◌∙◌, subst, arith}
use Rattle.ix_slottable.specs.SlotTableState.{value_at, IsHeld}
use Rattle.ix_hashmap.specs.inner.HashChains.{chain_from, LeadsToKey}
use Rattle.ix_flatmap.proofs.MapEntries.{map_entry-IsEntry}
use Rattle.ix_hashmap.proofs.HashSteps.{LeadsToKey-held, LeadsToKey-next, LeadsToKey-shorter, LeadsToKey-end}
use Rattle.ix_hashmap.proofs.hashmap.search.find_later.Goals as goal

pub get_unchecked-pair-requires : goal.get_unchecked-pair-requires
get_unchecked-pair-requires g c =
    subst (IsHeld c.args.pairs.now) (sym c.new-number.ensures)
    (LeadsToKey-held g.K.PartialEq.eq c.args.pairs.now c.args.chains.now c.args.key.now c.loop-place.place c.loop-place.invariant (omega (arith, c.loop-place-test.true, c.len-places.ensures.value)))

pub returns-then-eq : goal.returns-then-eq
returns-then-eq g c =
    sym (map_entry-IsEntry g.K.PartialEq.eq g.met.K.Eq.laws c.args.pairs.now c.args.key.now c.new-number.result c.get_unchecked-pair.result.now c.requires.distinct
    (record { at = c.get_unchecked-pair.ensures; equal = sym c.eq.ensures ∙ c.if-eq.true }))

pub next-place-requires : goal.next-place-requires
next-place-requires g c = omega (arith, c.loop-place-test.true, c.len-places.ensures.value)

pub loop-place-smaller : goal.loop-place-smaller
loop-place-smaller g c =
    subst (λ (next : ℕ). length (chain_from c.args.chains.now next) < length (chain_from c.args.chains.now c.loop-place.place)) (sym c.next-place.ensures)
    (LeadsToKey-shorter g.K.PartialEq.eq c.args.pairs.now c.args.chains.now c.args.key.now c.loop-place.place c.loop-place.invariant (omega (arith, c.loop-place-test.true, c.len-places.ensures.value)))

pub loop-place-preserved : goal.loop-place-preserved
loop-place-preserved g c =
    subst (LeadsToKey g.K.PartialEq.eq c.args.pairs.now c.args.chains.now c.args.key.now) (sym c.next-place.ensures)
    (LeadsToKey-next g.K.PartialEq.eq c.args.pairs.now c.args.chains.now c.args.key.now c.loop-place.place c.loop-place.invariant (omega (arith, c.loop-place-test.true, c.len-places.ensures.value)) c.get_unchecked-pair.result.now
    (ap (value_at c.args.pairs.now) (sym c.new-number.ensures) ∙ c.get_unchecked-pair.ensures) (sym c.eq.ensures ∙ c.if-eq.false))

pub returns : goal.returns
returns g c =
    sym (LeadsToKey-end g.K.PartialEq.eq c.args.pairs.now c.args.chains.now c.args.key.now c.loop-place.place c.loop-place.invariant (omega (arith, c.loop-place-test.false, c.len-places.ensures.value)))
