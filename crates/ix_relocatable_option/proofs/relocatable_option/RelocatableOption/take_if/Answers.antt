use Rattle.std.proofs.Common.{refl, inl, inr, ap}
use Rattle.ix_relocatable_option.specs.Optional.{option_of}
use Rattle.ix_relocatable_option.proofs.relocatable_option.RelocatableOption.take_if.Goals as goal

pub returns-then-predicate : goal.returns-then-predicate
returns-then-predicate g c =
    let called = rw c.if-predicate.true at c.predicate.ensures in
    rw c.in-Some.is (_, inl (record { shown = _; shows = refl; left = _; met = called; leaves = refl }, c.take.ensures.option, ap option_of c.take.ensures.value))

pub returns-else-predicate : goal.returns-else-predicate
returns-else-predicate g c =
    let called = rw c.if-predicate.false at c.predicate.ensures in
    rw c.in-Some.is (_, inr (record { shown = _; shows = refl; left = _; met = called; leaves = refl }, refl, refl))
