-- Worked runs: the replies to a list of commands are what users expect.
use Rattle.std.proofs.Common.{ℕ, ◌≡◌, List, [], ◌∷◌, true, false, refl}
use Rattle.std.specs.Prelude.{nat_eq}
use Rattle.std.specs.Borrow.{Bor}
use Rattle.ix_tables.specs.Bounded.{bounded_new}
use Rattle.ix_slottable.specs.SlotTableState.{slot_table_new}
use Rattle.ix_slotmap.specs.Generations.{SlotKey, slot_map_new}
use Rattle.ix_commands.specs.Run.{run_replies}
use Rattle.ix_commands.specs.QueueRun.{queue_reply, queue_after}
use Rattle.ix_commands.specs.VectorRun.{vector_reply, vector_after}
use Rattle.ix_commands.specs.SlotTableRun.{slot_table_reply, slot_table_after}
use Rattle.ix_commands.specs.SlotMapRun.{slot_map_reply, slot_map_after}
use Rattle.ix_commands.specs.MapRun.{map_reply, map_after}
use Rattle.ix_commands.specs.StringRun.{string_reply, string_after}
use Rattle.ix_commands.specs.declared.command.QueueCommand.TheVariants as queue
use Rattle.ix_commands.specs.declared.command.VectorCommand.TheVariants as vec
use Rattle.ix_commands.specs.declared.command.SlotTableCommand.TheVariants as table
use Rattle.ix_commands.specs.declared.command.SlotMapCommand.TheVariants as slot
use Rattle.ix_commands.specs.declared.command.MapCommand.TheVariants as flat
use Rattle.ix_commands.specs.declared.command.StringCommand.TheVariants as text
use Rattle.ix_commands.specs.declared.reply.Reply.TheVariants as reply
use Rattle.ix_commands.specs.declared.reply.ReplyError.TheVariants.{OutOfBounds, InsertWouldExceedCapacity, InvalidCharacter, KeyAlreadyExists, IsFull}

-- these numbers as a slice, wherever it lies
abbrev slice_at : ℕ × ℕ → List ℕ → Bor (List ℕ)
slice_at place xs = record { ref_ptr = place; now = xs }

-- capacity 1: a full queue refuses 5, and 456 takes the place of 123
queue-one : run_replies (queue_reply {X = ℕ}) queue_after (bounded_new 1) (queue.Push 123 ∷ queue.Push 5 ∷ queue.Over 456 ∷ queue.Pop ∷ queue.Pop ∷ [])
    ≡ reply.Bool true ∷ reply.Bool false ∷ reply.Value 123 ∷ reply.Value 456 ∷ reply.None ∷ []
queue-one = refl

-- capacity 3: the removed key 0 is used again, then key 2 is taken by name, and the table is full
table-three : run_replies (slot_table_reply {X = ℕ}) slot_table_after (slot_table_new 3) (table.Insert 10 ∷ table.Insert 20 ∷ table.Remove 0 ∷ table.Next ∷ table.Insert 30 ∷ table.InsertAt 2 40 ∷ table.Insert 50 ∷ [])
    ≡ reply.Key 0 ∷ reply.Key 1 ∷ reply.Value 10 ∷ reply.Key 0 ∷ reply.Key 0 ∷ reply.Bool true ∷ reply.None ∷ []
table-three = refl

abbrev key : ℕ → ℕ → SlotKey
key index generation = record { index = index; generation = generation }

-- capacity 3: the key 0:0 is removed and stays dead, 0:1 is replaced and dead then, and 0:2 is removed
slot-three : run_replies (slot_map_reply {X = ℕ}) slot_map_after (slot_map_new 3 0) (slot.Insert 10 ∷ slot.Remove (key 0 0) ∷ slot.Insert 20 ∷ slot.Get (key 0 0) ∷ slot.Get (key 0 1) ∷ slot.InsertAt 0 30 ∷ slot.Get (key 0 1) ∷ slot.Remove (key 0 2) ∷ slot.Next ∷ [])
    ≡ reply.Key (key 0 0) ∷ reply.Value 10 ∷ reply.Key (key 0 1) ∷ reply.None ∷ reply.Value 20 ∷ reply.Key (key 0 2) ∷ reply.None ∷ reply.Value 30 ∷ reply.Key (key 0 3) ∷ []
slot-three = refl

-- capacity 3: place 2 is taken by its index, place 3 is past the end; a key of another generation writes nothing
slot-at : run_replies (slot_map_reply {X = ℕ}) slot_map_after (slot_map_new 3 0) (slot.InsertAt 2 40 ∷ slot.InsertAt 3 50 ∷ slot.From 1 ∷ slot.Insert 10 ∷ slot.From 0 ∷ slot.Set (key 2 1) 60 ∷ slot.Set (key 2 0) 70 ∷ slot.From 1 ∷ slot.From 3 ∷ slot.Len ∷ [])
    ≡ reply.Key (key 2 0) ∷ reply.None ∷ reply.Entry (key 2 0) 40 ∷ reply.Key (key 0 0) ∷ reply.Entry (key 0 0) 10 ∷ reply.Bool false ∷ reply.Bool true ∷ reply.Entry (key 2 0) 70 ∷ reply.None ∷ reply.Number 2 ∷ []
slot-at = refl

-- capacity 2, at the greatest generation: place 0 is retired and takes no value, nor does place 1 take another
slot-last : run_replies (slot_map_reply {X = ℕ}) slot_map_after (slot_map_new 2 4294967295) (slot.Insert 7 ∷ slot.Remove (key 0 4294967295) ∷ slot.Insert 8 ∷ slot.Insert 9 ∷ slot.InsertAt 0 9 ∷ slot.InsertAt 1 9 ∷ slot.Retired ∷ slot.Full ∷ slot.From 0 ∷ [])
    ≡ reply.Key (key 0 4294967295) ∷ reply.Value 7 ∷ reply.Key (key 1 4294967295) ∷ reply.None ∷ reply.None ∷ reply.None ∷ reply.Number 1 ∷ reply.Bool true ∷ reply.Entry (key 1 4294967295) 8 ∷ []
slot-last = refl

-- capacity 1: key 1 keeps its value 2, and there is no room for key 2
flat-one : run_replies (map_reply {V = ℕ} nat_eq) (map_after nat_eq) (slot_table_new 1) (flat.Insert 1 2 ∷ flat.Insert 1 3 ∷ flat.Insert 2 4 ∷ flat.Get 1 ∷ flat.Key 0 ∷ flat.Key 1 ∷ [])
    ≡ reply.Done ∷ reply.Error KeyAlreadyExists ∷ reply.Error IsFull ∷ reply.Value 2 ∷ reply.Key 1 ∷ reply.None ∷ []
flat-one = refl

-- capacity 3: index 9 is past the end, and length 4 past the capacity; no more than 3 items is no change
vec-three : (place : ℕ × ℕ) → run_replies vector_reply vector_after (bounded_new 3) (vec.Extend (slice_at place (1 ∷ 2 ∷ [])) ∷ vec.Insert 9 7 ∷ vec.Resize 4 0 ∷ vec.Resize 3 5 ∷ vec.Truncate 9 ∷ vec.Remove 0 ∷ [])
    ≡ reply.Done ∷ reply.Error OutOfBounds ∷ reply.Error InsertWouldExceedCapacity ∷ reply.Done ∷ reply.Done ∷ reply.Value 1 ∷ []
vec-three place = refl

-- capacity 3: 200 is no byte of a string, and after abc there is no room; the empty text occurs last at index 3
text-three : (place : ℕ × ℕ) → run_replies string_reply string_after (bounded_new 3) (text.Append (slice_at place (97 ∷ 98 ∷ [])) ∷ text.Push 200 ∷ text.Push 99 ∷ text.Push 100 ∷ text.Rfind (slice_at place []) ∷ [])
    ≡ reply.Done ∷ reply.Error InvalidCharacter ∷ reply.Done ∷ reply.Error InsertWouldExceedCapacity ∷ reply.Key 3 ∷ []
text-three place = refl
