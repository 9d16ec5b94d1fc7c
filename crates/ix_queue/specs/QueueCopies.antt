-- Clones of queues.
use Rattle.std.specs.Prelude.{◌≡◌}
use Rattle.std.specs.List.{AllZip}
use Rattle.ix_tables.specs.Bounded.{Bounded}

module _ {T : Type 0} where
  -- clones of the items, in order, and the same capacity
  abbrev pub QueueIsClone : (T → T → Type 0) → Bounded T → Bounded T → Type 0
  QueueIsClone is_clone queue copy = AllZip is_clone queue.items copy.items × (copy.capacity ≡ queue.capacity)
