-- The run of a flat map: the reply to each command, and the slot state of pairs after it.
use Rattle.std.specs.Prelude.{◌==◌, Bool, length, slice_get, is_some}
use Rattle.ix_slottable.specs.SlotTableState.{SlotTableState, held_count}
use Rattle.ix_flatmap.specs.MapState.{map_value, map_keys}
use Rattle.ix_flatmap.specs.MapSteps.{map_insert_result, map_insert, map_set, map_remove}
use Rattle.ix_flatmap.specs.declared.flatmap.Pair.{Pair}
use Rattle.ix_commands.specs.Replies.{option_reply, key_reply, result_reply, map_reply_error}
use Rattle.ix_commands.specs.declared.command.MapCommand.{MapCommand}
use Rattle.ix_commands.specs.declared.command.MapCommand.TheVariants.{Insert, Get, Set, Remove, Contains, Key, Len, Empty, Full}
use Rattle.ix_commands.specs.declared.reply.Reply.{Reply}
use Rattle.ix_commands.specs.declared.reply.Reply.TheVariants as reply

module _ {K V : Type 0} where
  -- the reply to a command
  abbrev pub map_reply : (K → K → Bool) → SlotTableState (Pair K V) → MapCommand K V → Reply K V
  map_reply eq s (Insert key value) = result_reply map_reply_error (map_insert_result eq s key)
  map_reply eq s (Get key) = option_reply (map_value eq s key)
  map_reply eq s (Set key value) = reply.Bool (is_some (map_value eq s key))
  map_reply eq s (Remove key) = option_reply (map_value eq s key)
  map_reply eq s (Contains key) = reply.Bool (is_some (map_value eq s key))
  map_reply eq s (Key n) = key_reply (slice_get (map_keys s) n)
  map_reply eq s Len = reply.Number (held_count s)
  map_reply eq s Empty = reply.Bool (held_count s == 0)
  map_reply eq s Full = reply.Bool (held_count s == length s.values)

  -- the slot state after a command
  abbrev pub map_after : (K → K → Bool) → SlotTableState (Pair K V) → MapCommand K V → SlotTableState (Pair K V)
  map_after eq s (Insert key value) = map_insert eq s key value
  map_after eq s (Get key) = s
  map_after eq s (Set key value) = map_set eq s key value
  map_after eq s (Remove key) = map_remove eq s key
  map_after eq s (Contains key) = s
  map_after eq s (Key n) = s
  map_after eq s Len = s
  map_after eq s Empty = s
  map_after eq s Full = s
