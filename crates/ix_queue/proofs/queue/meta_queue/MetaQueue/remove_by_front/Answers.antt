use Rattle.std.proofs.Common.{◌≡◌, suc, ◌+◌, ◌<◌, Some, ap, ap₂, sym, ◌∙◌, length, slice_get, length-set, arith}
use Rattle.std.specs.Prelude.{slice_set, remove}
use Rattle.ix_queue.proofs.QueueRemoves.{slice_get-remove, set-remove}
use Rattle.ix_queue.proofs.queue.meta_queue.MetaQueue.remove_by_front.Goals as goal

pub loop-i-preserved : goal.loop-i-preserved
loop-i-preserved g c =
    let at = c.loop-i.invariant in
    let items = c.args.self.now.items in
    let i = c.loop-i.i in
    let more : suc i < length items = omega (arith, c.requires, c.loop-i-test.true) in
    let next : suc i ≡ i + 1 = omega arith in
    record {
      capacity = at.capacity;
      len = ap suc (length-set c.loop-i.self.items i _) ∙ at.len;
      items = ap₂ (λ xs y. slice_set xs i y) at.items c.replace-moved.ensures.after ∙ set-remove items i _ at.moved more ∙ ap (remove items) next;
      moved = sym (slice_get-remove items i (omega (arith, more)) ∙ ap (slice_get items) next) ∙ sym (ap (λ xs. slice_get xs i) at.items) ∙ c.item_at_mut.ensures.value ∙ sym (ap Some c.replace-moved.ensures.value);
    }
