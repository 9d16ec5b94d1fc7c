use Rattle.std.proofs.Common.{◌≡◌, suc, ◌+◌, ◌-◌, ◌<◌, Some, ap, ap₂, sym, ◌∙◌, length, slice_get, length-set, length-take-le, arith}
use Rattle.std.specs.Prelude.{slice_set, remove}
use Rattle.ix_queue.proofs.QueueRemoves.{slice_get-remove_next, set-remove_next}
use Rattle.ix_queue.proofs.queue.meta_queue.MetaQueue.remove_by_back.Goals as goal

pub loop-i-preserved : goal.loop-i-preserved
loop-i-preserved g c =
    let at = c.loop-i.invariant in
    let items = c.args.self.now.items in
    let i = length items - 1 - (c.loop-i.i + 1) in
    let next : suc i ≡ length items - 1 - c.loop-i.i = omega (arith, c.requires, c.loop-i-test.true) in
    let more : suc i < length items = omega (arith, c.requires, c.loop-i-test.true) in
    let len : c.len-last.result ≡ length items - 1 = c.len-last.ensures.value ∙ ap (λ queue. length queue.items) c.in_ok-moved.ensures.queue ∙ length-take-le (length items - 1) items (omega arith) in
    let place : c.len-last.result - 1 - c.loop-i.i ≡ i = omega (arith, len) in
    record {
      capacity = at.capacity;
      len = ap suc (length-set c.loop-i.self.items (c.len-last.result - 1 - c.loop-i.i) _) ∙ at.len;
      items = ap₂ (λ xs p. slice_set xs p c.replace-moved.new.dest) at.items place ∙ ap₂ (λ n y. slice_set (remove items n) i y) (sym next) c.replace-moved.ensures.after ∙ set-remove_next items i _ (ap (slice_get items) next ∙ at.moved) more;
      moved = sym (slice_get-remove_next items i more) ∙ ap₂ (λ n p. slice_get (remove items n) p) next (sym place) ∙ sym (ap (λ xs. slice_get xs (c.len-last.result - 1 - c.loop-i.i)) at.items) ∙ c.item_at_mut.ensures.value ∙ sym (ap Some c.replace-moved.ensures.value);
    }
