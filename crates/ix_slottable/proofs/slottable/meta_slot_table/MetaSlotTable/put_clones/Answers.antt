use Rattle.std.proofs.Common.{◌+◌, sym, ap, ◌∙◌, subst, arith}
use Rattle.ix_slottable.specs.SlotTableState.{value_at}
use Rattle.ix_slottable.proofs.SlotTableCopies.{CopiesBelow, CopiesBelow-none, CopiesBelow-free, CopiesBelow-held, CopiesBelow-all}
use Rattle.ix_slottable.proofs.slottable.meta_slot_table.MetaSlotTable.put_clones.Goals as goal

pub loop-number-init : goal.loop-number-init
loop-number-init g c = CopiesBelow-none g.T.Clone.is_clone c.args.other.now c.args.self.now c.requires

pub loop-number-preserved-in_default : goal.loop-number-preserved-in_default
loop-number-preserved-in_default g c =
    CopiesBelow-free g.T.Clone.is_clone c.args.other.now c.loop-number.self c.loop-number.number c.loop-number.invariant
    (ap (value_at c.args.other.now) (sym c.new-key.ensures) ∙ sym c.in_default.ensures.value)

pub loop-number-preserved : goal.loop-number-preserved
loop-number-preserved g c =
    subst (λ n. CopiesBelow g.T.Clone.is_clone c.args.other.now (n + 1) c.insert_at_unchecked.new.self) c.new-key.ensures
    (CopiesBelow-held g.T.Clone.is_clone c.args.other.now c.loop-number.self c.insert_at_unchecked.new.self c.new-key.result c.in-Some.value.now c.in_ok-copy.copy
    (subst (λ n. CopiesBelow g.T.Clone.is_clone c.args.other.now n c.loop-number.self) (sym c.new-key.ensures) c.loop-number.invariant)
    (sym c.in-Some.ensures.value) c.in_ok-copy.ensures.cases c.insert_at_unchecked.ensures.step)

pub returns-clause-values : goal.returns-clause-values
returns-clause-values g c =
    let done = c.loop-number-test.false in
    let all = c.capacity-number-end.ensures.value in
    CopiesBelow-all g.T.Clone.is_clone c.args.other.now c.loop-number.self c.loop-number.number c.loop-number.invariant (omega (arith, done, all))

pub returns-clause-capacity : goal.returns-clause-capacity
returns-clause-capacity g c = c.loop-number.invariant.capacity

pub returns-in_err-copy-clause-capacity : goal.returns-in_err-copy-clause-capacity
returns-in_err-copy-clause-capacity g c = c.loop-number.invariant.capacity
