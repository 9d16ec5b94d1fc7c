use Rattle.std.proofs.Common.{nat_eq, sym, ap, ◌∙◌, subst}
use Rattle.std.specs.List.Sorted.{IsStrictlyIncreasing}
use Rattle.std.specs.Map.{keys_of, lookup}
use Rattle.ix_slottable.proofs.Entries.{IsStrictlyIncreasing-entries, lookup-entries}
use Rattle.ix_slottable.proofs.slottable.meta_slot_table.MetaSlotTable.iter.Goals as goal

pub returns-clause-rising : goal.returns-clause-rising
returns-clause-rising g c =
    subst (λ items. IsStrictlyIncreasing (keys_of items)) (sym c.new.ensures.entries) (IsStrictlyIncreasing-entries c.args.self.now)

pub returns-clause-exactly : goal.returns-clause-exactly
returns-clause-exactly g c key = ap (lookup (nat_eq key)) c.new.ensures.entries ∙ lookup-entries c.args.self.now key
