-- The steps of a queue: the bounded list after each call, and the item that each call returns. The front item is the
-- oldest.
use Rattle.std.specs.Prelude.{ℕ, ◌-◌, List, length, drop, remove, slice_get, slice_set, nat_lt, if◌then◌else◌, Bool, Option, None}
use Rattle.std.specs.List.{push}
use Rattle.ix_tables.specs.Bounded.{Bounded, with_items}

module _ {T : Type 0} where
  -- more items than the capacity
  abbrev pub is_too_long : ℕ → List T → Bool
  is_too_long capacity items = nat_lt capacity (length items)

  -- x appended, and the front item removed if the list is then too long
  abbrev pub queue_overflow : Bounded T → T → Bounded T
  queue_overflow queue x =
      with_items queue (if is_too_long queue.capacity (push queue.items x) then drop 1 (push queue.items x) else push queue.items x)

  -- the item that is then removed
  abbrev pub queue_overflow_item : Bounded T → T → Option T
  queue_overflow_item queue x = if is_too_long queue.capacity (push queue.items x) then slice_get (push queue.items x) 0 else None

  abbrev pub queue_front : Bounded T → Option T
  queue_front queue = slice_get queue.items 0

  -- the front item removed
  abbrev pub queue_pop : Bounded T → Bounded T
  queue_pop queue = with_items queue (drop 1 queue.items)

  -- the item at this index removed; the same list past the end
  abbrev pub queue_remove : Bounded T → ℕ → Bounded T
  queue_remove queue index = with_items queue (remove queue.items index)

  -- the front item replaced by x, if there is one
  abbrev pub queue_set_front : Bounded T → T → Bounded T
  queue_set_front queue x = with_items queue (slice_set queue.items 0 x)

  -- the item at this index replaced by x, if there is one
  abbrev pub queue_set : Bounded T → ℕ → T → Bounded T
  queue_set queue index x = with_items queue (slice_set queue.items index x)

  -- the back item replaced by x, if there is one
  abbrev pub queue_set_back : Bounded T → T → Bounded T
  queue_set_back queue x = queue_set queue (length queue.items - 1) x
