-- The commands of each container: the commands that a line may spell.
use Rattle.std.specs.Prelude.{ℕ, List, [], ◌∷◌, Option, codes}
use Rattle.std.specs.Option.{option_or}
use Rattle.ix_run.specs.Words.{Form, KeyForm, command_of, key_command_of, takes_none, takes_one, takes_two, takes_any, one_byte, number_byte, many_bytes, number_many_bytes, slice_of}
use Rattle.ix_commands.specs.declared.command.QueueCommand.{QueueCommand}
use Rattle.ix_commands.specs.declared.command.QueueCommand.TheVariants as queue
use Rattle.ix_commands.specs.declared.command.VectorCommand.{VectorCommand}
use Rattle.ix_commands.specs.declared.command.VectorCommand.TheVariants as vec
use Rattle.ix_commands.specs.declared.command.SlotTableCommand.{SlotTableCommand}
use Rattle.ix_commands.specs.declared.command.SlotTableCommand.TheVariants as table
use Rattle.ix_commands.specs.declared.command.SlotMapCommand.{SlotMapCommand}
use Rattle.ix_commands.specs.declared.command.SlotMapCommand.TheVariants as slot
use Rattle.ix_commands.specs.declared.command.MapCommand.{MapCommand}
use Rattle.ix_commands.specs.declared.command.MapCommand.TheVariants as flat
use Rattle.ix_commands.specs.declared.command.StringCommand.{StringCommand}
use Rattle.ix_commands.specs.declared.command.StringCommand.TheVariants as text

abbrev pub queue_forms : List (Form (QueueCommand ℕ))
queue_forms =
    (codes "push", takes_one queue.Push)
    ∷ (codes "over", takes_one queue.Over)
    ∷ (codes "pop", takes_none queue.Pop)
    ∷ (codes "peek", takes_none queue.Peek)
    ∷ (codes "set", takes_one queue.Set)
    ∷ (codes "at", takes_one queue.At)
    ∷ (codes "clear", takes_none queue.Clear)
    ∷ (codes "len", takes_none queue.Len)
    ∷ (codes "capacity", takes_none queue.Capacity)
    ∷ (codes "empty", takes_none queue.Empty)
    ∷ (codes "full", takes_none queue.Full)
    ∷ []

abbrev pub vector_forms : List (Form (VectorCommand ℕ))
vector_forms =
    (codes "push", takes_one vec.Push)
    ∷ (codes "insert", takes_two vec.Insert)
    ∷ (codes "extend", takes_any (λ xs. vec.Extend (slice_of xs)))
    ∷ (codes "resize", takes_two vec.Resize)
    ∷ (codes "pop", takes_none vec.Pop)
    ∷ (codes "remove", takes_one vec.Remove)
    ∷ (codes "at", takes_one vec.At)
    ∷ (codes "set", takes_two vec.Set)
    ∷ (codes "truncate", takes_one vec.Truncate)
    ∷ (codes "clear", takes_none vec.Clear)
    ∷ (codes "len", takes_none vec.Len)
    ∷ (codes "capacity", takes_none vec.Capacity)
    ∷ (codes "empty", takes_none vec.Empty)
    ∷ (codes "full", takes_none vec.Full)
    ∷ []

abbrev pub slot_table_forms : List (Form (SlotTableCommand ℕ))
slot_table_forms =
    (codes "insert", takes_one table.Insert)
    ∷ (codes "next", takes_none table.Next)
    ∷ (codes "insert_at", takes_two table.InsertAt)
    ∷ (codes "remove", takes_one table.Remove)
    ∷ (codes "get", takes_one table.Get)
    ∷ (codes "set", takes_two table.Set)
    ∷ (codes "contains", takes_one table.Contains)
    ∷ (codes "from", takes_one table.From)
    ∷ (codes "len", takes_none table.Len)
    ∷ (codes "capacity", takes_none table.Capacity)
    ∷ (codes "empty", takes_none table.Empty)
    ∷ (codes "full", takes_none table.Full)
    ∷ []

abbrev pub slot_map_forms : List (Form (SlotMapCommand ℕ))
slot_map_forms =
    (codes "insert", takes_one slot.Insert)
    ∷ (codes "next", takes_none slot.Next)
    ∷ (codes "insert_at", takes_two slot.InsertAt)
    ∷ (codes "from", takes_one slot.From)
    ∷ (codes "retired", takes_none slot.Retired)
    ∷ (codes "len", takes_none slot.Len)
    ∷ (codes "capacity", takes_none slot.Capacity)
    ∷ (codes "empty", takes_none slot.Empty)
    ∷ (codes "full", takes_none slot.Full)
    ∷ []

-- the commands of a slot map that have a key
abbrev pub slot_key_forms : List (KeyForm (SlotMapCommand ℕ))
slot_key_forms =
    (codes "remove", λ key. takes_none (slot.Remove key))
    ∷ (codes "get", λ key. takes_none (slot.Get key))
    ∷ (codes "set", λ key. takes_one (slot.Set key))
    ∷ (codes "contains", λ key. takes_none (slot.Contains key))
    ∷ []

-- the command of a slot map that a line spells
abbrev pub slot_map_command_of : List ℕ → Option (SlotMapCommand ℕ)
slot_map_command_of line = option_or (command_of slot_map_forms line) (key_command_of slot_key_forms line)

abbrev pub map_forms : List (Form (MapCommand ℕ ℕ))
map_forms =
    (codes "insert", takes_two flat.Insert)
    ∷ (codes "get", takes_one flat.Get)
    ∷ (codes "set", takes_two flat.Set)
    ∷ (codes "remove", takes_one flat.Remove)
    ∷ (codes "contains", takes_one flat.Contains)
    ∷ (codes "key", takes_one flat.Key)
    ∷ (codes "len", takes_none flat.Len)
    ∷ (codes "empty", takes_none flat.Empty)
    ∷ (codes "full", takes_none flat.Full)
    ∷ []

abbrev pub string_forms : List (Form StringCommand)
string_forms =
    (codes "push", one_byte text.Push)
    ∷ (codes "append", many_bytes (λ bs. text.Append (slice_of bs)))
    ∷ (codes "insert", number_byte text.Insert)
    ∷ (codes "insert_bytes", number_many_bytes (λ i bs. text.InsertBytes i (slice_of bs)))
    ∷ (codes "pop", takes_none text.Pop)
    ∷ (codes "remove", takes_one text.Remove)
    ∷ (codes "remove_range", takes_two text.RemoveRange)
    ∷ (codes "find", many_bytes (λ bs. text.Find (slice_of bs)))
    ∷ (codes "rfind", many_bytes (λ bs. text.Rfind (slice_of bs)))
    ∷ (codes "strip_prefix", many_bytes (λ bs. text.StripPrefix (slice_of bs)))
    ∷ (codes "strip_suffix", many_bytes (λ bs. text.StripSuffix (slice_of bs)))
    ∷ (codes "drop", one_byte text.Drop)
    ∷ (codes "at", takes_one text.At)
    ∷ (codes "truncate", takes_one text.Truncate)
    ∷ (codes "clear", takes_none text.Clear)
    ∷ (codes "len", takes_none text.Len)
    ∷ (codes "capacity", takes_none text.Capacity)
    ∷ (codes "empty", takes_none text.Empty)
    ∷ (codes "full", takes_none text.Full)
    ∷ []

-- a command with the addresses of its slices left open
abbrev pub vector_plain : VectorCommand ℕ → VectorCommand ℕ
vector_plain (vec.Extend xs) = vec.Extend (slice_of xs.now)
vector_plain other = other

abbrev pub string_plain : StringCommand → StringCommand
string_plain (text.Append bs) = text.Append (slice_of bs.now)
string_plain (text.InsertBytes i bs) = text.InsertBytes i (slice_of bs.now)
string_plain (text.Find bs) = text.Find (slice_of bs.now)
string_plain (text.Rfind bs) = text.Rfind (slice_of bs.now)
string_plain (text.StripPrefix bs) = text.StripPrefix (slice_of bs.now)
string_plain (text.StripSuffix bs) = text.StripSuffix (slice_of bs.now)
string_plain other = other
