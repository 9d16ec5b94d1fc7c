use Rattle.std.proofs.Common.{◌≡◌, length, take}
use Rattle.std.specs.List.{AllZip}
use Rattle.ix_queue.proofs.queue.meta_queue.MetaQueue.fill_with_clones.Given as goal

abbrev pub invariant-loop-i : goal.invariant-loop-i
invariant-loop-i g l = record {
  capacity : l.self.capacity ≡ l.initial.self.capacity;
  len : length l.self.items ≡ l.i;
  clones : AllZip g.T.Clone.is_clone (take l.i l.other.items) l.self.items;
}
