-- The view that contracts have of an iterator that drains a vector.
use Rattle.std.specs.Prelude.{◌≡◌, ℕ, List, reverse, Option}
use Rattle.std.specs.Borrow.{GName}
use Rattle.std.specs.Iterator.{Yields, YieldsFirst}
use Rattle.ix_tables.specs.Bounded.{Bounded}
use Rattle.ix_vector.specs.declared.vector.drain.Drain.{Drain}

module _ {T V : Type 0} (bounded : V → Bounded T) where
  -- the items that are still to come: the vector holds them the last one first
  abbrev pub drain_items : Drain T V → List T
  drain_items drain = reverse (bounded drain.vector.now).items

  -- the capacity of the vector
  abbrev pub drain_capacity : Drain T V → ℕ
  drain_capacity drain = (bounded drain.vector.now).capacity

  -- the reference to the vector
  abbrev pub drain_lender : Drain T V → GName
  drain_lender drain = drain.vector.ghost_name

  -- both borrow the same vector, which keeps its capacity
  abbrev pub DrainKeeps : Drain T V → Drain T V → Type 0
  DrainKeeps old new = (drain_lender new ≡ drain_lender old) × (drain_capacity new ≡ drain_capacity old)

  -- `next` took the first item, if there was one
  abbrev pub DrainSteps : Drain T V → Option T → Drain T V → Type 0
  DrainSteps old item new = YieldsFirst drain_items old item new × DrainKeeps old new

  -- wherever calls of `next` lead, the same vector is borrowed
  abbrev pub DrainKeepsAlong : Drain T V → Type 0
  DrainKeepsAlong drain = (items : List T) (later : Drain T V) → Yields DrainSteps drain items later → DrainKeeps drain later
