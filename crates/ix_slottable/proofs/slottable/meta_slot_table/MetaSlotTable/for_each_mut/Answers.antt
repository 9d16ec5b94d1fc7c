use Rattle.std.proofs.Common.{◌+◌, ◌≤◌, length, refl, sym, ap, ◌∙◌, subst, arith}
use Rattle.std.proofs.lemmas.Bool.{iff_false}
use Rattle.ix_slottable.specs.SlotTableState.{value_at}
use Rattle.ix_slottable.specs.SlotTableSteps.{slot_table_set}
use Rattle.ix_slottable.specs.SlotTableCalls.{ChangesItem}
use Rattle.ix_tables.proofs.Places.{none_of_not_some}
use Rattle.ix_slottable.proofs.SlotTableCalls.{CalledOn-from_step, IsHeld-slot_table_set, Settles-slot_table_set, Visited, Visited-free, Visited-held, Visited-callable, Visited-all}
use Rattle.ix_slottable.proofs.Outcomes.{ChangesItem-map}
use Rattle.ix_slottable.proofs.slottable.meta_slot_table.MetaSlotTable.for_each_mut.Goals as goal

pub loop-number-preserved-then-not-contains : goal.loop-number-preserved-then-not-contains
loop-number-preserved-then-not-contains g c =
    let below = c.loop-number-test.true in
    let all = c.capacity-number-end.ensures.value in
    record {
      visited = Visited-free (ChangesItem slot_table_set (goal.F-step g)) _ _ c.loop-number.number _ _ c.loop-number.invariant.visited (omega (arith, below, all))
          (ap (value_at c.loop-number.self) (sym c.new-key.ensures) ∙ none_of_not_some _ (iff_false c.contains.ensures.value c.if-not-contains.true));
      keys = c.loop-number.invariant.keys;
      free = c.loop-number.invariant.free;
    }

pub f-requires : goal.f-requires
f-requires g c =
    Visited-callable (ChangesItem slot_table_set (goal.F-step g)) _ _ (goal.F-step g) (goal.F-pre g) c.new-key.result _ _ _ (λ p q x step. (tt, step.0, step.1)) c.requires
    (subst (λ n. Visited (ChangesItem slot_table_set (goal.F-step g)) c.args.f c.args.self.now n c.loop-number.f c.loop-number.self) (sym c.new-key.ensures) c.loop-number.invariant.visited) c.get_unchecked_mut.ensures.value

pub loop-number-preserved : goal.loop-number-preserved
loop-number-preserved g c =
    let at = c.get_unchecked_mut.ensures.value in
    let left = c.f.new.arg3 in
    let before = subst (λ n. Visited (ChangesItem slot_table_set (goal.F-step g)) c.args.f c.args.self.now n c.loop-number.f c.loop-number.self) (sym c.new-key.ensures) c.loop-number.invariant.visited in
    let same = IsHeld-slot_table_set c.loop-number.self c.new-key.result c.get_unchecked_mut.result.now left at in
    record {
      visited = subst (λ n. Visited (ChangesItem slot_table_set (goal.F-step g)) c.args.f c.args.self.now (n + 1) c.f.new.self (slot_table_set c.loop-number.self c.new-key.result left)) c.new-key.ensures
          (Visited-held (ChangesItem slot_table_set (goal.F-step g)) _ _ c.new-key.result _ _ _ _ c.get_unchecked_mut.result.now before at
          (left, CalledOn-from_step (goal.F-step g) _ _ c.get_unchecked_mut.result _ _ c.f.new.self c.f.ensures, refl)
          (Settles-slot_table_set _ _ left _ refl));
      keys = λ key. (λ held. (c.loop-number.invariant.keys key).0 ((same key).0 held), λ held. (same key).1 ((c.loop-number.invariant.keys key).1 held));
      free = c.loop-number.invariant.free;
    }

pub returns-clause-mapped : goal.returns-clause-mapped
returns-clause-mapped g c change changes =
    let end = c.loop-number-test.false in
    let all = c.capacity-number-end.ensures.value in
    let past : length c.args.self.now.values ≤ c.loop-number.number = omega (arith, end, all) in
    ChangesItem-map _ _ _ _ (goal.F-step g) (λ key. change) changes (Visited-all (ChangesItem slot_table_set (goal.F-step g)) _ _ _ _ _ c.loop-number.invariant.visited past)
