-- The steps of a vector: the bounded list after each call, and the result of each method that may return an error.
use Rattle.std.specs.Prelude.{ℕ, ◌+◌, ◌-◌, ◌<◌, ◌≤◌, List, ◌++◌, length, take, insert, remove, replicate, nat_le, if◌then◌else◌, Result, Ok, Err}
use Rattle.std.specs.List.{refill}
use Rattle.ix_tables.specs.Bounded.{Bounded, has_room, with_items}
pub use Rattle.ix_tables.specs.Bounded.{vec_last, vec_pop, vec_truncate}
use Rattle.ix_vector.specs.declared.vector.modification_error.VectorModificationError.{VectorModificationError}
use Rattle.ix_vector.specs.declared.vector.modification_error.VectorModificationError.TheVariants.{OutOfBounds, InsertWouldExceedCapacity}

abbrev pub VecResult : Type 0
VecResult = Result (Unit {0}) VectorModificationError

module _ {T : Type 0} where
  -- n more items do not exceed the capacity
  abbrev pub HasRoomFor : ℕ → Bounded T → Type 0
  HasRoomFor n vec = length vec.items + n ≤ vec.capacity

  -- n more items exceed the capacity
  abbrev pub LacksRoomFor : ℕ → Bounded T → Type 0
  LacksRoomFor n vec = vec.capacity < length vec.items + n

  abbrev pub vec_push_result : Bounded T → VecResult
  vec_push_result vec = if has_room vec then Ok tt else Err InsertWouldExceedCapacity

  -- x inserted at i, if there is room and i is at most the length
  abbrev pub vec_insert : Bounded T → ℕ → T → Bounded T
  vec_insert vec i x =
      if has_room vec then (if nat_le i (length vec.items) then with_items vec (insert vec.items i x) else vec) else vec

  -- the error of a full vector comes before that of an index out of bounds
  abbrev pub vec_insert_result : Bounded T → ℕ → VecResult
  vec_insert_result vec i =
      if has_room vec then (if nat_le i (length vec.items) then Ok tt else Err OutOfBounds) else Err InsertWouldExceedCapacity

  -- item i removed; the same list past the end
  abbrev pub vec_remove : Bounded T → ℕ → Bounded T
  vec_remove vec i = with_items vec (remove vec.items i)

  -- xs appended
  abbrev pub vec_extend : Bounded T → List T → Bounded T
  vec_extend vec xs = with_items vec (vec.items ++ xs)

  -- the first n items kept, and copies of x appended up to length n
  abbrev pub vec_resize : Bounded T → ℕ → T → Bounded T
  vec_resize vec n x = with_items vec (take n vec.items ++ replicate (n - length vec.items) x)

  abbrev pub vec_resize_result : Bounded T → ℕ → VecResult
  vec_resize_result vec n = if nat_le n vec.capacity then Ok tt else Err InsertWouldExceedCapacity

  -- the items overwritten by xs, one by one
  abbrev pub vec_refill : Bounded T → List T → Bounded T
  vec_refill vec xs = with_items vec (refill (length vec.items) vec.items xs)
