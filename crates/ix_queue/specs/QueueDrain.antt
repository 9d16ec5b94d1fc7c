-- The view that contracts have of an iterator that drains a queue.
use Rattle.std.specs.Prelude.{◌≡◌, ℕ, List, Option}
use Rattle.std.specs.Borrow.{GName}
use Rattle.std.specs.Iterator.{Yields, YieldsFirst, YieldsLast}
use Rattle.ix_queue.specs.declared.queue.drain.Drain.{Drain}

module _ {T S : Type 0} where
  -- the items that are still to come
  abbrev pub drain_items : Drain T S → List T
  drain_items drain = drain.queue.now.items

  -- the capacity of the queue
  abbrev pub drain_capacity : Drain T S → ℕ
  drain_capacity drain = drain.queue.now.capacity

  -- the reference to the queue
  abbrev pub drain_lender : Drain T S → GName
  drain_lender drain = drain.queue.ghost_name

  -- both borrow the same queue, which keeps its capacity
  abbrev pub DrainKeeps : Drain T S → Drain T S → Type 0
  DrainKeeps old new = (drain_lender new ≡ drain_lender old) × (drain_capacity new ≡ drain_capacity old)

  -- `next` took the first item, if there was one
  abbrev pub DrainSteps : Drain T S → Option T → Drain T S → Type 0
  DrainSteps old item new = YieldsFirst drain_items old item new × DrainKeeps old new

  -- `next_back` took the last item, if there was one
  abbrev pub DrainStepsBack : Drain T S → Option T → Drain T S → Type 0
  DrainStepsBack old item new = YieldsLast drain_items old item new × DrainKeeps old new

  -- wherever calls of `next` lead, the same queue is borrowed
  abbrev pub DrainKeepsAlong : Drain T S → Type 0
  DrainKeepsAlong drain = (items : List T) (later : Drain T S) → Yields DrainSteps drain items later → DrainKeeps drain later
