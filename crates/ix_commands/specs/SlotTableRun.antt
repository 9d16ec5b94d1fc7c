-- The run of a slot table: the reply to each command, and the slot state after it.
use Rattle.std.specs.Prelude.{ℕ, ◌==◌, Option, length, slice_get, is_some, nat_lt, nat_le, if◌then◌else◌}
use Rattle.std.specs.List.{find}
use Rattle.ix_slottable.specs.SlotTableState.{SlotTableState, value_at, held_count, entries}
use Rattle.ix_slottable.specs.SlotTableSteps.{slot_table_set, slot_table_insert, slot_table_insert_at, slot_table_remove}
use Rattle.ix_commands.specs.Replies.{option_reply, key_reply, entry_reply}
use Rattle.ix_commands.specs.declared.command.SlotTableCommand.{SlotTableCommand}
use Rattle.ix_commands.specs.declared.command.SlotTableCommand.TheVariants.{Insert, Next, InsertAt, Remove, Get, Set, Contains, From, Len, Capacity, Empty, Full}
use Rattle.ix_commands.specs.declared.reply.Reply.{Reply}
use Rattle.ix_commands.specs.declared.reply.Reply.TheVariants as reply

module _ {X : Type 0} where
  -- the least held key that is not below this one, with its value
  abbrev pub slot_table_from : SlotTableState X → ℕ → Option (ℕ × X)
  slot_table_from s start = find (λ entry. nat_le start entry.0) (entries s)

  -- the reply to a command
  abbrev pub slot_table_reply : SlotTableState X → SlotTableCommand X → Reply ℕ X
  slot_table_reply s (Insert x) = key_reply (slice_get s.free 0)
  slot_table_reply s Next = key_reply (slice_get s.free 0)
  slot_table_reply s (InsertAt key x) = reply.Bool (nat_lt key (length s.values))
  slot_table_reply s (Remove key) = option_reply (value_at s key)
  slot_table_reply s (Get key) = option_reply (value_at s key)
  slot_table_reply s (Set key x) = reply.Bool (is_some (value_at s key))
  slot_table_reply s (Contains key) = reply.Bool (is_some (value_at s key))
  slot_table_reply s (From key) = entry_reply (slot_table_from s key)
  slot_table_reply s Len = reply.Number (held_count s)
  slot_table_reply s Capacity = reply.Number (length s.values)
  slot_table_reply s Empty = reply.Bool (held_count s == 0)
  slot_table_reply s Full = reply.Bool (held_count s == length s.values)

  -- the slot state after a command
  abbrev pub slot_table_after : SlotTableState X → SlotTableCommand X → SlotTableState X
  slot_table_after s (Insert x) = slot_table_insert s x
  slot_table_after s Next = s
  slot_table_after s (InsertAt key x) = slot_table_insert_at s key x
  slot_table_after s (Remove key) = slot_table_remove s key
  slot_table_after s (Get key) = s
  slot_table_after s (Set key x) = if is_some (value_at s key) then slot_table_set s key x else s
  slot_table_after s (Contains key) = s
  slot_table_after s (From key) = s
  slot_table_after s Len = s
  slot_table_after s Capacity = s
  slot_table_after s Empty = s
  slot_table_after s Full = s
