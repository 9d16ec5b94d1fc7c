use Rattle.std.proofs.Common.{◌≡◌, true, false, rules, ℕ, ◌<◌, length, sym, ap, ◌∙◌, subst, arith}
use Rattle.std.specs.Cmp.Lexicographic.{bytes_decides}
use Rattle.ix_slottable.specs.SlotTableState.{value_at, IsHeld}
use Rattle.ix_flatmap.specs.MapState.{has_bytes}
use Rattle.ix_flatmap.proofs.MapBytes.{map_entry-bytes}
use Rattle.ix_flatmap.proofs.MapEntries.{map_entry-IsEntry}
use Rattle.ix_hashmap.specs.inner.HashChains.{chain_from, LeadsToKey}
use Rattle.ix_hashmap.proofs.HashSteps.{LeadsToKey-held, LeadsToKey-next, LeadsToKey-shorter, LeadsToKey-end}
use Rattle.ix_hashmap.proofs.hashmap.search.find_bytes.Goals as goal

pub get_unchecked-pair-requires : goal.get_unchecked-pair-requires
get_unchecked-pair-requires g c =
    subst (IsHeld c.args.pairs.now) (sym c.new-number.ensures)
    (LeadsToKey-held (has_bytes g.K.AsSlice.items) c.args.pairs.now c.args.chains.now c.args.bytes.now c.loop-place.place c.loop-place.invariant (omega (arith, c.loop-place-test.true, c.len-places.ensures.value)))

pub returns-then-eq : goal.returns-then-eq
returns-then-eq g c =
    let pair = c.get_unchecked-pair.result.now in
    let has : has_bytes g.K.AsSlice.items pair.key c.args.bytes.now ≡ true = search rules in
    sym (map_entry-bytes g.K.PartialEq.eq g.K.AsSlice.items c.requires.equal c.args.pairs.now pair.key c.args.bytes.now ((bytes_decides _ _).0 has)
    ∙ map_entry-IsEntry g.K.PartialEq.eq g.met.K.Eq.laws c.args.pairs.now pair.key c.new-number.result pair c.requires.distinct
    (record { at = c.get_unchecked-pair.ensures; equal = g.met.K.Eq.laws.refl pair.key }))

pub next-place-requires : goal.next-place-requires
next-place-requires g c = omega (arith, c.loop-place-test.true, c.len-places.ensures.value)

pub loop-place-smaller : goal.loop-place-smaller
loop-place-smaller g c =
    subst (λ (next : ℕ). length (chain_from c.args.chains.now next) < length (chain_from c.args.chains.now c.loop-place.place)) (sym c.next-place.ensures)
    (LeadsToKey-shorter (has_bytes g.K.AsSlice.items) c.args.pairs.now c.args.chains.now c.args.bytes.now c.loop-place.place c.loop-place.invariant (omega (arith, c.loop-place-test.true, c.len-places.ensures.value)))

pub loop-place-preserved : goal.loop-place-preserved
loop-place-preserved g c =
    let differs : has_bytes g.K.AsSlice.items c.get_unchecked-pair.result.now.key c.args.bytes.now ≡ false = search rules in
    subst (LeadsToKey (has_bytes g.K.AsSlice.items) c.args.pairs.now c.args.chains.now c.args.bytes.now) (sym c.next-place.ensures)
    (LeadsToKey-next (has_bytes g.K.AsSlice.items) c.args.pairs.now c.args.chains.now c.args.bytes.now c.loop-place.place c.loop-place.invariant (omega (arith, c.loop-place-test.true, c.len-places.ensures.value)) c.get_unchecked-pair.result.now
    (ap (value_at c.args.pairs.now) (sym c.new-number.ensures) ∙ c.get_unchecked-pair.ensures) differs)

pub returns : goal.returns
returns g c =
    sym (LeadsToKey-end (has_bytes g.K.AsSlice.items) c.args.pairs.now c.args.chains.now c.args.bytes.now c.loop-place.place c.loop-place.invariant (omega (arith, c.loop-place-test.false, c.len-places.ensures.value)))
