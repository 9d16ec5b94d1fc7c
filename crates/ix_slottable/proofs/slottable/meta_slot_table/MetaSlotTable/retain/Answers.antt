use Rattle.std.proofs.Common.{◌≡◌, ◌+◌, ◌≤◌, length, sym, ap, ◌∙◌, subst, arith}
use Rattle.std.specs.Prelude.{if◌then◌else◌, Bool}
use Rattle.std.proofs.lemmas.Bool.{iff_false}
use Rattle.ix_slottable.specs.SlotTableState.{value_at}
use Rattle.ix_slottable.specs.SlotTableSteps.{slot_table_set, slot_table_remove}
use Rattle.ix_slottable.specs.SlotTableCalls.{RetainsItem}
use Rattle.ix_tables.proofs.Places.{none_of_not_some}
use Rattle.ix_slottable.proofs.SlotTableCalls.{CalledOn-from_step, slot_table_remove-slot_table_set, Settles-retained, Visited, Visited-free, Visited-held, Visited-callable, Visited-all}
use Rattle.ix_slottable.proofs.Counts.{Thins-trans, Thins-retained}
use Rattle.ix_slottable.proofs.Outcomes.{RetainsItem-filter}
use Rattle.ix_slottable.proofs.slottable.meta_slot_table.MetaSlotTable.retain.Goals.{then-not-f, else-not-f}
use Rattle.ix_slottable.proofs.slottable.meta_slot_table.MetaSlotTable.retain.Goals as goal

pub loop-number-preserved-then-not-contains : goal.loop-number-preserved-then-not-contains
loop-number-preserved-then-not-contains g c =
    let below = c.loop-number-test.true in
    let all = c.capacity-number-end.ensures.value in
    record {
      visited = Visited-free (RetainsItem slot_table_set slot_table_remove (goal.F-step g)) _ _ c.loop-number.number _ _ c.loop-number.invariant.visited (omega (arith, below, all))
          (ap (value_at c.loop-number.self) (sym c.new-key.ensures) ∙ none_of_not_some _ (iff_false c.contains.ensures.value c.if-not-contains.true));
      thins = c.loop-number.invariant.thins;
    }

pub f-requires : goal.f-requires
f-requires g c =
    Visited-callable (RetainsItem slot_table_set slot_table_remove (goal.F-step g)) _ _ (goal.F-step g) (goal.F-pre g) c.new-key.result _ _ _ (λ p q x step. (step.0, step.1, step.2)) c.requires
    (subst (λ n. Visited (RetainsItem slot_table_set slot_table_remove (goal.F-step g)) c.args.f c.args.self.now n c.loop-number.f c.loop-number.self) (sym c.new-key.ensures) c.loop-number.invariant.visited) c.get_unchecked_mut.ensures.value

pub loop-number-preserved : goal.loop-number-preserved
loop-number-preserved g c =
    let at = c.get_unchecked_mut.ensures.value in
    let left = c.f.new.arg3 in
    let is : c.if-not-f.self ≡ (if c.f.result then slot_table_set c.loop-number.self c.new-key.result left else slot_table_remove c.loop-number.self c.new-key.result) =
    elim c.if-not-f.branch [
      | then-not-f w ↦ w.self-is ∙ w.remove.ensures.step.map ∙ slot_table_remove-slot_table_set c.loop-number.self c.new-key.result c.get_unchecked_mut.result.now left at
          ∙ sym (ap (λ (b : Bool). if b then slot_table_set c.loop-number.self c.new-key.result left else slot_table_remove c.loop-number.self c.new-key.result) w.if-not-f.true)
      | else-not-f w ↦ w.self-is
          ∙ sym (ap (λ (b : Bool). if b then slot_table_set c.loop-number.self c.new-key.result left else slot_table_remove c.loop-number.self c.new-key.result) w.if-not-f.false)
    ] in
    let before = subst (λ n. Visited (RetainsItem slot_table_set slot_table_remove (goal.F-step g)) c.args.f c.args.self.now n c.loop-number.f c.loop-number.self) (sym c.new-key.ensures) c.loop-number.invariant.visited in
    record {
      visited = subst (λ n. Visited (RetainsItem slot_table_set slot_table_remove (goal.F-step g)) c.args.f c.args.self.now (n + 1) c.f.new.self c.if-not-f.self) c.new-key.ensures
          (Visited-held (RetainsItem slot_table_set slot_table_remove (goal.F-step g)) _ _ c.new-key.result _ _ _ _ c.get_unchecked_mut.result.now before at
          (c.f.result, left, CalledOn-from_step (goal.F-step g) _ _ c.get_unchecked_mut.result c.f.result _ c.f.new.self c.f.ensures, is)
          (Settles-retained _ _ left c.f.result _ is));
      thins = Thins-trans _ _ _ c.loop-number.invariant.thins (Thins-retained c.loop-number.self _ _ left c.f.result _ at is);
    }

pub returns-clause-capacity : goal.returns-clause-capacity
returns-clause-capacity g c = c.loop-number.invariant.visited.capacity

pub returns-clause-filtered : goal.returns-clause-filtered
returns-clause-filtered g c test tests =
    let end = c.loop-number-test.false in
    let all = c.capacity-number-end.ensures.value in
    let past : length c.args.self.now.values ≤ c.loop-number.number = omega (arith, end, all) in
    RetainsItem-filter _ _ _ _ (goal.F-step g) (λ key. test) tests (Visited-all (RetainsItem slot_table_set slot_table_remove (goal.F-step g)) _ _ _ _ _ c.loop-number.invariant.visited past)
