use Rattle.std.proofs.Common.{◌≡◌, true, false, rules, ℕ, sym, ap, ◌∙◌, subst, arith}
use Rattle.ix_hashmap.specs.inner.HashChains.{IsIndexed, head_at, links_insert_first}
use Rattle.ix_hashmap.proofs.HashSteps.{IsIndexed-insert, IsIndexed-inserted}
use Rattle.ix_hashmap.proofs.hashmap.buckets.BucketsKeyIndex.insert.Goals as goal

pub insert_first-requires-clause-bucket : goal.insert_first-requires-clause-bucket
insert_first-requires-clause-bucket g c =
    let below = c.in-Ok.ensures.step.was_free.0 in
    let lengths = c.requires.fits.lengths in
    c.requires.seat.below (omega (arith, below, lengths))

pub insert_first-requires-clause-place : goal.insert_first-requires-clause-place
insert_first-requires-clause-place g c =
    let place = c.value.ensures in
    let below = c.in-Ok.ensures.step.was_free.0 in
    let lengths = c.requires.fits.lengths in omega (arith, place, below, lengths)

pub returns-then-not-has_chains-clause-fits : goal.returns-then-not-has_chains-clause-fits
returns-then-not-has_chains-clause-fits g c =
    let none : g.S.HashMapStorage.has_chains ≡ false = search rules in
    IsIndexed-insert _ _ c.args.pairs.now c.try_insert.new.self c.args.pair c.args.self.now.links c.requires.fits none _ c.try_insert.ensures.step

pub returns-in-Ok-clause-fits : goal.returns-in-Ok-clause-fits
returns-in-Ok-clause-fits g c =
    let has : g.S.HashMapStorage.has_chains ≡ true = search rules in
    let links = c.insert_first.ensures.links ∙ ap (λ (place : ℕ). links_insert_first c.args.self.now.links c.args.seat.number place) c.value.ensures in
    subst (IsIndexed _ _ c.try_insert-2.new.self) (sym links)
    (IsIndexed-inserted _ _ c.args.pairs.now c.try_insert-2.new.self c.args.pair c.args.self.now.links c.requires.fits has c.in-Ok.place c.args.seat.number c.in-Ok.ensures.step c.requires.seat.is
    (ap (λ ls. head_at ls c.args.seat.number) (sym links) ∙ c.insert_first.ensures.head ∙ c.value.ensures))
