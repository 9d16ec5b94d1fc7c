use Rattle.std.proofs.Common.{◌≡◌, true, false, rules, ℕ, sym, subst, arith}
use Rattle.ix_tables.proofs.Places.{held_item, place_at_within}
use Rattle.ix_slottable.specs.SlotTableState.{value_at}
use Rattle.ix_hashmap.specs.inner.HashChains.{head_at, IsOnChain, IsUnlinked}
use Rattle.ix_hashmap.proofs.HashSteps.{on_chain-held, IsIndexed-remove, IsIndexed-removed}
use Rattle.ix_hashmap.proofs.hashmap.buckets.BucketsKeyIndex.remove.Goals as goal

pub remove-requires-clause-bucket : goal.remove-requires-clause-bucket
remove-requires-clause-bucket g c =
    let held = held_item (value_at c.args.pairs.now c.args.place) c.requires.held in
    let below = place_at_within c.args.pairs.now.values c.args.place held.0 held.1 in
    let lengths = c.requires.fits.lengths in
    (c.requires.seat held.0 held.1).below (omega (arith, below, lengths))

pub remove-requires-clause-first : goal.remove-requires-clause-first
remove-requires-clause-first g c =
    let held = held_item (value_at c.args.pairs.now c.args.place) c.requires.held in
    (c.requires.seat held.0 held.1).starts

pub remove-requires-clause-has : goal.remove-requires-clause-has
remove-requires-clause-has g c =
    let held = held_item (value_at c.args.pairs.now c.args.place) c.requires.held in
    let has : g.S.HashMapStorage.has_chains ≡ true = search rules in
    subst (IsOnChain c.args.self.now.links (head_at c.args.self.now.links c.args.seat.number)) (sym c.value.ensures)
    (on_chain-held _ c.args.pairs.now c.args.self.now.links c.args.place c.args.seat.number held.0 (c.requires.fits.chains has) held.1 (c.requires.seat held.0 held.1).is)

pub returns-then-not-has_chains-clause-fits : goal.returns-then-not-has_chains-clause-fits
returns-then-not-has_chains-clause-fits g c =
    let none : g.S.HashMapStorage.has_chains ≡ false = search rules in
    IsIndexed-remove _ _ c.args.pairs.now _ c.remove_unchecked.result c.args.self.now.links c.requires.fits none c.args.place c.remove_unchecked.ensures.step

pub returns-clause-fits : goal.returns-clause-fits
returns-clause-fits g c =
    let has : g.S.HashMapStorage.has_chains ≡ true = search rules in
    let step = c.remove_unchecked-2.ensures.step in
    IsIndexed-removed _ _ c.args.pairs.now _ c.remove_unchecked-2.result c.args.self.now.links c.requires.fits has c.args.place c.args.seat.number _ step
    (c.requires.seat c.remove_unchecked-2.result (sym step.value)).is
    (subst (λ (place : ℕ). IsUnlinked c.args.self.now.links c.args.seat.number place c.remove.new.self) c.value.ensures c.remove.ensures)
