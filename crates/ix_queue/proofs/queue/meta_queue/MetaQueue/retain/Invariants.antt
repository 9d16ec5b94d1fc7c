use Rattle.std.proofs.Common.{◌≡◌, ◌≤◌, length, drop}
use Rattle.std.specs.Fn.{CalledAt}
use Rattle.ix_tables.specs.Calls.{IsCallableOnEach}
use Rattle.ix_queue.proofs.QueueCalls.{Asked}
use Rattle.ix_queue.proofs.queue.meta_queue.MetaQueue.retain.Given as goal

-- the closure was asked for the first items, and may be called with the others
abbrev pub invariant-loop-i : goal.invariant-loop-i
invariant-loop-i g l = record {
  capacity : l.self.capacity ≡ l.initial.self.capacity;
  fits : length l.self.items ≤ length l.initial.self.items;
  callable : IsCallableOnEach g.F.FnMut (drop l.i l.initial.self.items) l.f;
  asked : Asked (CalledAt g.F.FnMut) l.initial.self.items l.initial.f l.i l.self.items l.f;
}
