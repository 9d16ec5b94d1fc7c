use Rattle.std.proofs.Common.{◌≡◌, suc, ◌-◌, length, slice_get, Some}
use Rattle.std.specs.Prelude.{remove}
use Rattle.ix_queue.proofs.queue.meta_queue.MetaQueue.remove_by_back.Given as goal

-- the queue lacks the item that is i items before the last, which is to be moved
abbrev pub invariant-loop-i : goal.invariant-loop-i
invariant-loop-i g l = record {
  capacity : l.self.capacity ≡ l.fn.self.capacity;
  len : suc (length l.self.items) ≡ length l.fn.self.items;
  items : l.self.items ≡ remove l.fn.self.items (length l.fn.self.items - 1 - l.i);
  moved : slice_get l.fn.self.items (length l.fn.self.items - 1 - l.i) ≡ Some l.moved;
}
