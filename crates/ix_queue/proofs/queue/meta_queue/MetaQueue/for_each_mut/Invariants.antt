use Rattle.std.proofs.Common.{◌≡◌, ◌++◌, List, length, take, drop}
use Rattle.ix_queue.specs.QueueCalls.{ChangesInTurn, IsCallableOnEachMut}
use Rattle.ix_queue.proofs.queue.meta_queue.MetaQueue.for_each_mut.Given as goal

-- where the calls with the items that are left lead, the calls with all items lead
abbrev pub invariant-loop-i : goal.invariant-loop-i
invariant-loop-i g l = record {
  capacity : l.self.capacity ≡ l.initial.self.capacity;
  len : length l.self.items ≡ length l.initial.self.items;
  left : drop l.i l.self.items ≡ drop l.i l.initial.self.items;
  callable : IsCallableOnEachMut g.F.FnMut (drop l.i l.initial.self.items) l.f;
  calls : (ys : List g.row.T.Denot) (last : _) → ChangesInTurn g.F.FnMut l.f (drop l.i l.initial.self.items) ys last → ChangesInTurn g.F.FnMut l.initial.f l.initial.self.items (take l.i l.self.items ++ ys) last;
}
