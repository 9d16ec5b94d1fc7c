-- The run of a queue: the reply to each command, and the queue after it.
use Rattle.std.specs.Prelude.{ℕ, ◌==◌, [], length, slice_get, nat_lt}
use Rattle.ix_tables.specs.Bounded.{Bounded, with_items, has_room, bounded_push}
use Rattle.ix_queue.specs.QueueSteps.{queue_overflow, queue_overflow_item, queue_front, queue_pop, queue_set_front}
use Rattle.ix_commands.specs.Replies.{option_reply}
use Rattle.ix_commands.specs.declared.command.QueueCommand.{QueueCommand}
use Rattle.ix_commands.specs.declared.command.QueueCommand.TheVariants.{Push, Over, Pop, Peek, Set, At, Clear, Len, Capacity, Empty, Full}
use Rattle.ix_commands.specs.declared.reply.Reply.{Reply}
use Rattle.ix_commands.specs.declared.reply.Reply.TheVariants as reply

module _ {X : Type 0} where
  -- the reply to a command
  abbrev pub queue_reply : Bounded X → QueueCommand X → Reply ℕ X
  queue_reply queue (Push x) = reply.Bool (has_room queue)
  queue_reply queue (Over x) = option_reply (queue_overflow_item queue x)
  queue_reply queue Pop = option_reply (queue_front queue)
  queue_reply queue Peek = option_reply (queue_front queue)
  queue_reply queue (Set x) = reply.Bool (nat_lt 0 (length queue.items))
  queue_reply queue (At i) = option_reply (slice_get queue.items i)
  queue_reply queue Clear = reply.Done
  queue_reply queue Len = reply.Number (length queue.items)
  queue_reply queue Capacity = reply.Number queue.capacity
  queue_reply queue Empty = reply.Bool (length queue.items == 0)
  queue_reply queue Full = reply.Bool (length queue.items == queue.capacity)

  -- the queue after a command
  abbrev pub queue_after : Bounded X → QueueCommand X → Bounded X
  queue_after queue (Push x) = bounded_push queue x
  queue_after queue (Over x) = queue_overflow queue x
  queue_after queue Pop = queue_pop queue
  queue_after queue Peek = queue
  queue_after queue (Set x) = queue_set_front queue x
  queue_after queue (At i) = queue
  queue_after queue Clear = with_items queue []
  queue_after queue Len = queue
  queue_after queue Capacity = queue
  queue_after queue Empty = queue
  queue_after queue Full = queue
