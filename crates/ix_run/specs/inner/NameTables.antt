-- Tables of the commands by name, as forms.
use Rattle.std.specs.Prelude.{ℕ, ◌≡◌, ◌≤◌, List, [], ◌∷◌, Option, None, Some, map, true, not, length, bytes_eq, if◌then◌else◌}
use Rattle.std.specs.List.{slice_split, list_all, list_any}
use Rattle.std.specs.Map.{lookup}
use Rattle.std.specs.Borrow.{Bor}
use Rattle.ix_run.specs.Words.{Form, is_space, takes_none, takes_one, takes_two, takes_any, one_byte, number_byte, many_bytes, number_many_bytes, slice_of}
use Rattle.ix_run.specs.inner.LineRest.{words_after, len_after}
use Rattle.ix_run.specs.declared.run.grammar.name_table.Takes.{Takes}
use Rattle.ix_run.specs.declared.run.grammar.name_table.Takes.TheVariants.{Nothing, Number, TwoNumbers, Numbers, Byte, NumberAndByte, Bytes, NumberAndBytes}
use Rattle.ix_commands.specs.declared.command.QueueCommand.{QueueCommand}
use Rattle.ix_commands.specs.declared.command.QueueCommand.TheVariants as queue
use Rattle.ix_commands.specs.declared.command.VectorCommand.{VectorCommand}
use Rattle.ix_commands.specs.declared.command.VectorCommand.TheVariants as vec
use Rattle.ix_commands.specs.declared.command.StringCommand.{StringCommand}
use Rattle.ix_commands.specs.declared.command.StringCommand.TheVariants as text
use Rattle.ix_run.specs.declared.run.grammar.readers.vector.VectorName.{VectorName}
use Rattle.ix_run.specs.declared.run.grammar.readers.vector.VectorName.TheVariants as vector_name
use Rattle.ix_run.specs.declared.run.grammar.readers.string.StringName.{StringName}
use Rattle.ix_run.specs.declared.run.grammar.readers.string.StringName.TheVariants as string_name
use Rattle.ix_commands.specs.declared.command.SlotTableCommand.{SlotTableCommand}
use Rattle.ix_commands.specs.declared.command.SlotTableCommand.TheVariants as table
use Rattle.ix_slotmap.specs.Generations.{SlotKey}
use Rattle.ix_run.specs.declared.run.grammar.readers.slotmap.PlainName.{PlainName}
use Rattle.ix_run.specs.declared.run.grammar.readers.slotmap.PlainName.TheVariants as plain_name
use Rattle.ix_run.specs.declared.run.grammar.readers.slotmap.KeyName.{KeyName}
use Rattle.ix_run.specs.declared.run.grammar.readers.slotmap.KeyName.TheVariants as key_name
use Rattle.ix_commands.specs.declared.command.SlotMapCommand.{SlotMapCommand}
use Rattle.ix_commands.specs.declared.command.SlotMapCommand.TheVariants as slot
use Rattle.ix_commands.specs.declared.command.MapCommand.{MapCommand}
use Rattle.ix_commands.specs.declared.command.MapCommand.TheVariants as flat

module _ {V : Type 0} where
  -- the names, each with the value beside it
  abbrev pub rows : List (Bor (List ℕ) × V) → List (List ℕ × V)
  rows table = map (λ row. (row.0.now, row.1)) table

  -- the same of a table that is a constant
  abbrev pub constant_rows : List (record { now : List ℕ } × V) → List (List ℕ × V)
  constant_rows table = map (λ row. (row.0.now, row.1)) table

-- the bytes before the first space
abbrev pub first_word : List ℕ → List ℕ
first_word [] = []
first_word (byte ∷ bytes) = if is_space byte then [] else byte ∷ first_word bytes

-- the name is the first word of a line, and this is the rest behind the space after it
pub record IsAfterName (line name : List ℕ) (rest : Option (List ℕ)) : Type 0 where
  pub named : bytes_eq (first_word line) name ≡ true
  pub words : slice_split is_space line ≡ first_word line ∷ words_after rest
  pub len : len_after rest ≤ length line

module _ {V : Type 0} where
  -- no name has a space
  abbrev pub HasWords : List (List ℕ × V) → Type 0
  HasWords table = list_all (λ row. not (list_any is_space row.0)) table ≡ true

  -- the value beside the first word of a line, and the rest behind the space after it
  pub record IsNamed (table : List (List ℕ × V)) (line : List ℕ) (value : V) (rest : Option (List ℕ)) : Type 0 where
    pub found : lookup (bytes_eq (first_word line)) table ≡ Some value
    pub words : slice_split is_space line ≡ first_word line ∷ words_after rest
    pub len : len_after rest ≤ length line

module _ {C : Type 0} where
  -- the command that at most two numbers make, with zeros for those that are missing
  abbrev pub numbers_taken : Takes → (ℕ → ℕ → C) → List ℕ → Option C
  numbers_taken Nothing make = takes_none (make 0 0)
  numbers_taken Number make = takes_one (λ n. make n 0)
  numbers_taken TwoNumbers make = takes_two make
  numbers_taken other make = λ numbers. None

  -- the same, or the command that zero or more numbers make
  abbrev pub items_taken : Takes → (ℕ → ℕ → List ℕ → C) → List ℕ → Option C
  items_taken Numbers make = takes_any (make 0 0)
  items_taken other make = numbers_taken other (λ n m. make n m [])

  -- the same, or the command that a byte or zero or more bytes make, after a number or none
  abbrev pub bytes_taken : Takes → (ℕ → ℕ → ℕ → List ℕ → C) → List ℕ → Option C
  bytes_taken Byte make = one_byte (λ byte. make 0 0 byte [])
  bytes_taken NumberAndByte make = number_byte (λ n byte. make n 0 byte [])
  bytes_taken Bytes make = many_bytes (make 0 0 0)
  bytes_taken NumberAndBytes make = number_many_bytes (λ n bytes. make n 0 0 bytes)
  bytes_taken other make = numbers_taken other (λ n m. make n m 0 [])

-- the forms of a table of commands, each completed by the numbers after it
abbrev pub forms_by : {C D : Type 0} → (C → ℕ → ℕ → D) → List (List ℕ × (Takes × C)) → List (Form D)
forms_by with table = map (λ row. (row.0, numbers_taken row.1.0 (with row.1.1))) table

-- a queue's command, with this number
abbrev pub queue_with : QueueCommand ℕ → ℕ → QueueCommand ℕ
queue_with (queue.Push old) n = queue.Push n
queue_with (queue.Over old) n = queue.Over n
queue_with (queue.Set old) n = queue.Set n
queue_with (queue.At old) n = queue.At n
queue_with other n = other

-- a slot table's command, with these numbers
abbrev pub slot_table_with : SlotTableCommand ℕ → ℕ → ℕ → SlotTableCommand ℕ
slot_table_with (table.Insert old) n m = table.Insert n
slot_table_with (table.InsertAt key old) n m = table.InsertAt n m
slot_table_with (table.Remove old) n m = table.Remove n
slot_table_with (table.Get old) n m = table.Get n
slot_table_with (table.Set key old) n m = table.Set n m
slot_table_with (table.Contains old) n m = table.Contains n
slot_table_with (table.From old) n m = table.From n
slot_table_with other n m = other

-- the command of a slot map with this name, of these numbers
abbrev pub slot_map_named : PlainName → ℕ → ℕ → SlotMapCommand ℕ
slot_map_named plain_name.Insert n m = slot.Insert n
slot_map_named plain_name.Next n m = slot.Next
slot_map_named plain_name.InsertAt n m = slot.InsertAt n m
slot_map_named plain_name.From n m = slot.From n
slot_map_named plain_name.Retired n m = slot.Retired
slot_map_named plain_name.Len n m = slot.Len
slot_map_named plain_name.Capacity n m = slot.Capacity
slot_map_named plain_name.Empty n m = slot.Empty
slot_map_named plain_name.Full n m = slot.Full

-- the command of a slot map with this name, of this key and this number
abbrev pub slot_key_named : KeyName → SlotKey → ℕ → SlotMapCommand ℕ
slot_key_named key_name.Remove key n = slot.Remove key
slot_key_named key_name.Get key n = slot.Get key
slot_key_named key_name.Set key n = slot.Set key n
slot_key_named key_name.Contains key n = slot.Contains key

-- a flat map's command, with these numbers
abbrev pub map_with : MapCommand ℕ ℕ → ℕ → ℕ → MapCommand ℕ ℕ
map_with (flat.Insert key old) n m = flat.Insert n m
map_with (flat.Get old) n m = flat.Get n
map_with (flat.Set key old) n m = flat.Set n m
map_with (flat.Remove old) n m = flat.Remove n
map_with (flat.Contains old) n m = flat.Contains n
map_with (flat.Key old) n m = flat.Key n
map_with other n m = other

-- the command of a vector with this name, of these numbers or this list
abbrev pub vector_named : VectorName → ℕ → ℕ → List ℕ → VectorCommand ℕ
vector_named vector_name.Push n m items = vec.Push n
vector_named vector_name.Insert n m items = vec.Insert n m
vector_named vector_name.Extend n m items = vec.Extend (slice_of items)
vector_named vector_name.Resize n m items = vec.Resize n m
vector_named vector_name.Pop n m items = vec.Pop
vector_named vector_name.Remove n m items = vec.Remove n
vector_named vector_name.At n m items = vec.At n
vector_named vector_name.Set n m items = vec.Set n m
vector_named vector_name.Truncate n m items = vec.Truncate n
vector_named vector_name.Clear n m items = vec.Clear
vector_named vector_name.Len n m items = vec.Len
vector_named vector_name.Capacity n m items = vec.Capacity
vector_named vector_name.Empty n m items = vec.Empty
vector_named vector_name.Full n m items = vec.Full

-- the command of a string with this name, of these numbers or these bytes
abbrev pub string_named : StringName → ℕ → ℕ → ℕ → List ℕ → StringCommand
string_named string_name.Push n m byte bytes = text.Push byte
string_named string_name.Append n m byte bytes = text.Append (slice_of bytes)
string_named string_name.Insert n m byte bytes = text.Insert n byte
string_named string_name.InsertBytes n m byte bytes = text.InsertBytes n (slice_of bytes)
string_named string_name.Pop n m byte bytes = text.Pop
string_named string_name.Remove n m byte bytes = text.Remove n
string_named string_name.RemoveRange n m byte bytes = text.RemoveRange n m
string_named string_name.Find n m byte bytes = text.Find (slice_of bytes)
string_named string_name.Rfind n m byte bytes = text.Rfind (slice_of bytes)
string_named string_name.StripPrefix n m byte bytes = text.StripPrefix (slice_of bytes)
string_named string_name.StripSuffix n m byte bytes = text.StripSuffix (slice_of bytes)
string_named string_name.Drop n m byte bytes = text.Drop byte
string_named string_name.At n m byte bytes = text.At n
string_named string_name.Truncate n m byte bytes = text.Truncate n
string_named string_name.Clear n m byte bytes = text.Clear
string_named string_name.Len n m byte bytes = text.Len
string_named string_name.Capacity n m byte bytes = text.Capacity
string_named string_name.Empty n m byte bytes = text.Empty
string_named string_name.Full n m byte bytes = text.Full
