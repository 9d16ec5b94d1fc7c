-- Worked examples: the steps of a queue do what users expect.
use Rattle.std.proofs.Common.{ℕ, ◌≡◌, List, [], ◌∷◌, true, false, Some, None, refl}
use Rattle.ix_tables.specs.Bounded.{Bounded, has_room, bounded_push}
use Rattle.ix_queue.specs.QueueSteps.{queue_overflow, queue_overflow_item, queue_front, queue_pop, queue_set, queue_set_back, queue_set_front}

-- a queue with this capacity
abbrev queue_of : List ℕ → ℕ → Bounded ℕ
queue_of items capacity = record { items = items; capacity = capacity }

-- capacity 1: push 123 returns true, push_with_overflow 456 returns 123, and pop returns 456
has_room-one : has_room (queue_of [] 1) ≡ true
has_room-one = refl

bounded_push-one : bounded_push (queue_of [] 1) 123 ≡ queue_of (123 ∷ []) 1
bounded_push-one = refl

queue_overflow_item-one : queue_overflow_item (queue_of (123 ∷ []) 1) 456 ≡ Some 123
queue_overflow_item-one = refl

queue_overflow-one : queue_overflow (queue_of (123 ∷ []) 1) 456 ≡ queue_of (456 ∷ []) 1
queue_overflow-one = refl

queue_front-one : queue_front (queue_of (456 ∷ []) 1) ≡ Some 456
queue_front-one = refl

queue_pop-one : queue_pop (queue_of (456 ∷ []) 1) ≡ queue_of [] 1
queue_pop-one = refl

-- capacity 2: the front item is replaced by 9
queue_set_front-two : queue_set_front (queue_of (1 ∷ 2 ∷ []) 2) 9 ≡ queue_of (9 ∷ 2 ∷ []) 2
queue_set_front-two = refl

-- the back item is replaced by 9, and the item at index 0, and none past the end
queue_set_back-two : queue_set_back (queue_of (1 ∷ 2 ∷ []) 2) 9 ≡ queue_of (1 ∷ 9 ∷ []) 2
queue_set_back-two = refl

queue_set-two : queue_set (queue_of (1 ∷ 2 ∷ []) 2) 0 9 ≡ queue_of (9 ∷ 2 ∷ []) 2
queue_set-two = refl

queue_set-past : queue_set (queue_of (1 ∷ 2 ∷ []) 2) 2 9 ≡ queue_of (1 ∷ 2 ∷ []) 2
queue_set-past = refl

-- capacity 0: push 1 returns false, push_with_overflow 2 returns 2, and pop returns None; a write changes nothing
has_room-none : has_room (queue_of [] 0) ≡ false
has_room-none = refl

bounded_push-none : bounded_push (queue_of [] 0) 1 ≡ queue_of [] 0
bounded_push-none = refl

queue_overflow_item-none : queue_overflow_item (queue_of [] 0) 2 ≡ Some 2
queue_overflow_item-none = refl

queue_overflow-none : queue_overflow (queue_of [] 0) 2 ≡ queue_of [] 0
queue_overflow-none = refl

queue_front-none : queue_front (queue_of [] 0) ≡ None
queue_front-none = refl

queue_set_front-none : queue_set_front (queue_of [] 0) 9 ≡ queue_of [] 0
queue_set_front-none = refl

queue_set_back-none : queue_set_back (queue_of [] 0) 9 ≡ queue_of [] 0
queue_set_back-none = refl
