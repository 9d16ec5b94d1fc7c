-- The run of a slot map: the reply to each command, and the map after it.
use Rattle.std.specs.Prelude.{◌≡◌, ℕ, ◌==◌, Bool, List, Option, Some, None, length, slice_get, is_some, option_map, nat_le, nat_lt, ◌&&◌, not, if◌then◌else◌}
use Rattle.std.specs.List.{find}
use Rattle.ix_slottable.specs.SlotTableState.{value_at}
use Rattle.ix_slotmap.specs.Generations.{SlotKey, SlotMapState, key_at, place_value, slot_map_value, IsDead, retired_count, slot_map_len, slot_map_entries}
use Rattle.ix_slotmap.specs.SlotMapSteps.{is_raisable, slot_map_set, slot_map_insert, slot_map_fill, slot_map_replace, slot_map_remove}
use Rattle.ix_commands.specs.Replies.{option_reply, key_reply, entry_reply}
use Rattle.ix_commands.specs.Run.{run_state}
use Rattle.ix_commands.specs.declared.command.SlotMapCommand.{SlotMapCommand}
use Rattle.ix_commands.specs.declared.command.SlotMapCommand.TheVariants.{Insert, Next, InsertAt, Remove, Get, Set, Contains, From, Retired, Len, Capacity, Empty, Full}
use Rattle.ix_commands.specs.declared.reply.Reply.{Reply}
use Rattle.ix_commands.specs.declared.reply.Reply.TheVariants as reply

module _ {X : Type 0} where
  -- the key that `insert` returns next
  abbrev pub slot_map_next : SlotMapState X → Option SlotKey
  slot_map_next s = option_map (key_at s) (slice_get s.slots.free 0)

  -- the slot is free
  abbrev pub is_free_place : SlotMapState X → ℕ → Bool
  is_free_place s place = nat_lt place (length s.slots.values) && not (is_some (value_at s.slots place))

  -- the slot holds a value, and its generation can be raised
  abbrev pub is_replaceable : SlotMapState X → ℕ → Bool
  is_replaceable s place = is_some (place_value s place) && is_raisable s place

  -- the value in the slot: in a free one, or in place of another value if its generation can be raised
  abbrev pub slot_map_insert_at : SlotMapState X → ℕ → X → SlotMapState X
  slot_map_insert_at s place x = if is_free_place s place then slot_map_fill s place x else if is_replaceable s place then slot_map_replace s place x else s

  -- the key of the slot then, if the value was inserted
  abbrev pub slot_map_insert_at_key : SlotMapState X → ℕ → X → Option SlotKey
  slot_map_insert_at_key s place x =
      if is_free_place s place then Some (key_at s place)
      else if is_replaceable s place then Some (key_at (slot_map_insert_at s place x) place)
      else None

  -- the first held key whose index is not below this one, with its value
  abbrev pub slot_map_from : SlotMapState X → ℕ → Option (SlotKey × X)
  slot_map_from s start = find (λ entry. nat_le start entry.0.index) (slot_map_entries s)

  -- the reply to a command
  abbrev pub slot_map_reply : SlotMapState X → SlotMapCommand X → Reply SlotKey X
  slot_map_reply s (Insert x) = key_reply (slot_map_next s)
  slot_map_reply s Next = key_reply (slot_map_next s)
  slot_map_reply s (InsertAt place x) = key_reply (slot_map_insert_at_key s place x)
  slot_map_reply s (Remove key) = option_reply (slot_map_value s key)
  slot_map_reply s (Get key) = option_reply (slot_map_value s key)
  slot_map_reply s (Set key x) = reply.Bool (is_some (slot_map_value s key))
  slot_map_reply s (Contains key) = reply.Bool (is_some (slot_map_value s key))
  slot_map_reply s (From place) = entry_reply (slot_map_from s place)
  slot_map_reply s Retired = reply.Number (retired_count s)
  slot_map_reply s Len = reply.Number (slot_map_len s)
  slot_map_reply s Capacity = reply.Number (length s.slots.values)
  slot_map_reply s Empty = reply.Bool (slot_map_len s == 0)
  slot_map_reply s Full = reply.Bool (length s.slots.free == 0)

  -- the map after a command
  abbrev pub slot_map_after : SlotMapState X → SlotMapCommand X → SlotMapState X
  slot_map_after s (Insert x) = slot_map_insert s x
  slot_map_after s Next = s
  slot_map_after s (InsertAt place x) = slot_map_insert_at s place x
  slot_map_after s (Remove key) = slot_map_remove s key
  slot_map_after s (Get key) = s
  slot_map_after s (Set key x) = if is_some (slot_map_value s key) then slot_map_set s key x else s
  slot_map_after s (Contains key) = s
  slot_map_after s (From place) = s
  slot_map_after s Retired = s
  slot_map_after s Len = s
  slot_map_after s Capacity = s
  slot_map_after s Empty = s
  slot_map_after s Full = s

  -- a key that is dead before the commands is dead after them, and has no value then
  abbrev pub DeadStaysDead : SlotMapState X → List (SlotMapCommand X) → Type 0
  DeadStaysDead s commands =
      (key : SlotKey) → IsDead s key → IsDead (run_state slot_map_after s commands) key × (slot_map_value (run_state slot_map_after s commands) key ≡ None)
