-- The run of a vector: the reply to each command, and the vector after it.
use Rattle.std.specs.Prelude.{ℕ, ◌+◌, ◌==◌, [], length, set, slice_get, nat_lt, nat_le, if◌then◌else◌, Ok, Err}
use Rattle.ix_tables.specs.Bounded.{Bounded, with_items, bounded_push}
use Rattle.ix_vector.specs.VectorSteps.{VecResult, vec_push_result, vec_insert, vec_insert_result, vec_remove, vec_last, vec_pop, vec_truncate, vec_extend, vec_resize, vec_resize_result}
use Rattle.ix_vector.specs.declared.vector.VectorModificationError.TheVariants.{InsertWouldExceedCapacity}
use Rattle.ix_commands.specs.Replies.{option_reply, result_reply, vector_reply_error}
use Rattle.ix_commands.specs.declared.command.VectorCommand.{VectorCommand}
use Rattle.ix_commands.specs.declared.command.VectorCommand.TheVariants.{Push, Insert, Extend, Resize, Pop, Remove, At, Set, Truncate, Clear, Len, Capacity, Empty, Full}
use Rattle.ix_commands.specs.declared.reply.Reply.{Reply}
use Rattle.ix_commands.specs.declared.reply.Reply.TheVariants as reply

module _ {X : Type 0} where
  -- n more elements are an error if there is no room for all of them
  abbrev pub vec_extend_result : Bounded X → ℕ → VecResult
  vec_extend_result vec n = if nat_le (length vec.items + n) vec.capacity then Ok tt else Err InsertWouldExceedCapacity

  -- the reply to a command
  abbrev pub vector_reply : Bounded X → VectorCommand X → Reply ℕ X
  vector_reply vec (Push x) = result_reply vector_reply_error (vec_push_result vec)
  vector_reply vec (Insert i x) = result_reply vector_reply_error (vec_insert_result vec i)
  vector_reply vec (Extend xs) = result_reply vector_reply_error (vec_extend_result vec (length xs.now))
  vector_reply vec (Resize n x) = result_reply vector_reply_error (vec_resize_result vec n)
  vector_reply vec Pop = option_reply (vec_last vec)
  vector_reply vec (Remove i) = option_reply (slice_get vec.items i)
  vector_reply vec (At i) = option_reply (slice_get vec.items i)
  vector_reply vec (Set i x) = reply.Bool (nat_lt i (length vec.items))
  vector_reply vec (Truncate n) = reply.Done
  vector_reply vec Clear = reply.Done
  vector_reply vec Len = reply.Number (length vec.items)
  vector_reply vec Capacity = reply.Number vec.capacity
  vector_reply vec Empty = reply.Bool (length vec.items == 0)
  vector_reply vec Full = reply.Bool (length vec.items == vec.capacity)

  -- the vector after a command
  abbrev pub vector_after : Bounded X → VectorCommand X → Bounded X
  vector_after vec (Push x) = bounded_push vec x
  vector_after vec (Insert i x) = vec_insert vec i x
  vector_after vec (Extend xs) = if nat_le (length vec.items + length xs.now) vec.capacity then vec_extend vec xs.now else vec
  vector_after vec (Resize n x) = if nat_le n vec.capacity then vec_resize vec n x else vec
  vector_after vec Pop = vec_pop vec
  vector_after vec (Remove i) = vec_remove vec i
  vector_after vec (At i) = vec
  vector_after vec (Set i x) = with_items vec (set vec.items i x)
  vector_after vec (Truncate n) = vec_truncate vec n
  vector_after vec Clear = with_items vec []
  vector_after vec Len = vec
  vector_after vec Capacity = vec
  vector_after vec Empty = vec
  vector_after vec Full = vec
