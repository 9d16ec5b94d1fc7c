use Rattle.std.proofs.Common.{rules, length, inl, inr, None, sym, ap, ◌∙◌, arith}
use Rattle.std.specs.Prelude.{replicate}
use Rattle.std.proofs.lemmas.Bool.{cases_eq}
use Rattle.ix_slottable.specs.SlotTableState.{SlotTableState, value_at}
use Rattle.ix_slottable.specs.SlotTableSteps.{slot_table_remove}
use Rattle.ix_slottable.proofs.SlotTables.{IsVacant-from_places, held_count-and-free}
use Rattle.ix_slottable.proofs.SlotTableCalls.{fold-range_with_len, length-slot_table_remove}
use Rattle.ix_slottable.proofs.Counts.{held_count-replicate, free-slot_table_clear}
use Rattle.ix_slottable.proofs.slottable.meta_slot_table.MetaSlotTable.clear.Goals as goal

pub loop-key-preserved : goal.loop-key-preserved
loop-key-preserved g c =
    let at = c.loop-key.invariant in
    record {
      map = c.remove.ensures.step.map ∙ ap (slot_table_remove c.loop-key.self) c.new.ensures ∙ ap (λ (s : SlotTableState g.row.T.Denot). slot_table_remove s c.loop-key.key) at.map
          ∙ sym (fold-range_with_len slot_table_remove c.args.self.now c.loop-key.key);
      capacity = ap (λ (s : SlotTableState g.row.T.Denot). length s.values) c.remove.ensures.step.map ∙ length-slot_table_remove c.loop-key.self c.new.result ∙ at.capacity;
      removed = λ other below. elim (cases_eq other c.new.result) [
        | inl here ↦ ap (value_at c.remove.new.self) here ∙ c.remove.ensures.step.gone
        | inr there ↦ c.remove.ensures.step.kept other there ∙ at.removed other (let is = c.new.ensures in omega arith)
      ];
    }

pub returns-clause-values : goal.returns-clause-values
returns-clause-values g c =
    let at = c.loop-key.invariant in
    let all = c.len-key-end.ensures.value in
    let shown = ap (λ (s : SlotTableState g.row.T.Denot). length s.values) c.self.view_is in
    let done = c.loop-key-test.false in
    IsVacant-from_places c.loop-key.self.values (λ key below. at.removed key (let same = at.capacity in omega (arith, all, done, shown, same, below)))
    ∙ ap (λ n. replicate n None) at.capacity

pub returns-clause-count : goal.returns-clause-count
returns-clause-count g c = held_count-replicate c.loop-key.self _ (returns-clause-values g c)

pub returns-clause-map : goal.returns-clause-map
returns-clause-map g c = search rules

pub returns-clause-room : goal.returns-clause-room
returns-clause-room g c =
    ap (λ (s : SlotTableState g.row.T.Denot). length s.free) (returns-clause-map g c) ∙ free-slot_table_clear c.args.self.now (held_count-and-free _ _ _ _ _ (record { sound = c.self.invariant; is = c.self.view_is }))
