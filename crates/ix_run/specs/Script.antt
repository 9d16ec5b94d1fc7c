-- The replies to a script: one line for each line, in order.
use Rattle.std.specs.Prelude.{ℕ, List, [], ◌∷◌, ◌++◌, if◌then◌else◌, Option, None, Some, option_map, option_and_then, unwrap_or, map, codes, decimal, bytes_eq, nat_eq}
use Rattle.ix_tables.specs.Bounded.{Bounded, bounded_new}
use Rattle.ix_slottable.specs.SlotTableState.{SlotTableState, slot_table_new, entries}
use Rattle.ix_slotmap.specs.Generations.{SlotMapState, slot_map_entries, slot_map_new}
use Rattle.ix_flatmap.specs.MapState.{map_keys}
use Rattle.ix_flatmap.specs.declared.flatmap.Pair.{Pair}
use Rattle.ix_string.specs.Escape.{escaped_text}
use Rattle.ix_commands.specs.QueueRun.{queue_reply, queue_after}
use Rattle.ix_commands.specs.VectorRun.{vector_reply, vector_after}
use Rattle.ix_commands.specs.SlotTableRun.{slot_table_reply, slot_table_after}
use Rattle.ix_commands.specs.SlotMapRun.{slot_map_reply, slot_map_after}
use Rattle.ix_commands.specs.MapRun.{map_reply, map_after}
use Rattle.ix_commands.specs.StringRun.{string_reply, string_after}
use Rattle.ix_commands.specs.declared.reply.Reply.{Reply}
use Rattle.ix_run.specs.Forms.{queue_forms, vector_forms, slot_table_forms, slot_map_command_of, map_forms, string_forms}
use Rattle.ix_run.specs.Headers.{header_of, capacity_of, first_generation}
use Rattle.ix_run.specs.Lines.{LimitedLine, limited_line, lines_of, with_line_feed}
use Rattle.ix_run.specs.ReplyTexts.{reply_text, slot_map_reply_text, items_text, entry_text, key_entry_text}
use Rattle.ix_run.specs.Words.{Form, command_of}
use Rattle.ix_run.specs.declared.run.grammar.header.Header.{Header}
use Rattle.ix_run.specs.declared.run.grammar.header.Container.{Container}
use Rattle.ix_run.specs.declared.run.grammar.header.Container.TheVariants.{Queue, Vector, SlotTable, SlotMap, FlatMap, String}

-- reply and after: the text of the reply to the command that a line spells, if any, and the model after it; shown: the text that
-- `show` prints
module _ {M : Type 0} (reply : M → List ℕ → Option (List ℕ)) (after : M → List ℕ → M) (shown : M → List ℕ) where
  -- the reply to a line; a question mark to one that spells no command
  abbrev pub line_reply : M → LimitedLine → List ℕ
  line_reply m None = codes "?"
  line_reply m (Some line) = if bytes_eq line (codes "show") then shown m else unwrap_or (reply m line) (codes "?")

  -- the model after a line
  abbrev pub line_after : M → LimitedLine → M
  line_after m None = m
  line_after m (Some line) = if bytes_eq line (codes "show") then m else after m line

  -- the replies to lines, each with its line feed
  abbrev pub replies_to_lines : M → List LimitedLine → List ℕ
  replies_to_lines m [] = []
  replies_to_lines m (line ∷ lines) = with_line_feed (line_reply m line) ++ replies_to_lines (line_after m line) lines

abbrev pub after_command : {M C : Type 0} → (M → C → M) → M → Option C → M
after_command after m None = m
after_command after m (Some command) = after m command

-- read: the command that a line spells, if any
module _ {M C : Type 0} (read : List ℕ → Option C) where
  -- the text of the reply to the command that a line spells
  abbrev pub read_reply : {R : Type 0} → (R → List ℕ) → (M → C → R) → M → List ℕ → Option (List ℕ)
  read_reply text reply m line = option_map (λ command. text (reply m command)) (read line)

  -- the model after the command that a line spells
  abbrev pub read_after : (M → C → M) → M → List ℕ → M
  read_after after m line = after_command after m (read line)

-- the same by a table of forms
module _ {M C : Type 0} where
  abbrev pub spelled_reply : List (Form C) → (M → C → Reply ℕ ℕ) → M → List ℕ → Option (List ℕ)
  spelled_reply forms reply = read_reply (command_of forms) reply_text reply

  abbrev pub spelled_after : List (Form C) → (M → C → M) → M → List ℕ → M
  spelled_after forms after = read_after (command_of forms) after

-- the same of a slot map
abbrev pub slot_map_line_reply : SlotMapState ℕ → List ℕ → Option (List ℕ)
slot_map_line_reply = read_reply slot_map_command_of slot_map_reply_text slot_map_reply

abbrev pub slot_map_line_after : SlotMapState ℕ → List ℕ → SlotMapState ℕ
slot_map_line_after = read_after slot_map_command_of slot_map_after

-- the text that `show` prints
abbrev pub list_shown : Bounded ℕ → List ℕ
list_shown list = items_text decimal list.items

abbrev pub slot_table_shown : SlotTableState ℕ → List ℕ
slot_table_shown map = items_text entry_text (entries map)

abbrev pub slot_map_shown : SlotMapState ℕ → List ℕ
slot_map_shown map = items_text key_entry_text (slot_map_entries map)

abbrev pub map_shown : SlotTableState (Pair ℕ ℕ) → List ℕ
map_shown map = items_text decimal (map_keys map)

abbrev pub string_shown : Bounded ℕ → List ℕ
string_shown text = codes "\"" ++ (escaped_text text.items ++ codes "\"")

-- the replies to lines for an empty container of this capacity
abbrev pub container_replies : Container → ℕ → List LimitedLine → List ℕ
container_replies Queue n = replies_to_lines (spelled_reply queue_forms queue_reply) (spelled_after queue_forms queue_after) list_shown (bounded_new n)
container_replies Vector n = replies_to_lines (spelled_reply vector_forms vector_reply) (spelled_after vector_forms vector_after) list_shown (bounded_new n)
container_replies SlotTable n = replies_to_lines (spelled_reply slot_table_forms slot_table_reply) (spelled_after slot_table_forms slot_table_after) slot_table_shown (slot_table_new n)
container_replies (SlotMap start) n = replies_to_lines slot_map_line_reply slot_map_line_after slot_map_shown (slot_map_new n (first_generation start))
container_replies FlatMap n = replies_to_lines (spelled_reply map_forms (map_reply nat_eq)) (spelled_after map_forms (map_after nat_eq)) map_shown (slot_table_new n)
container_replies String n = replies_to_lines (spelled_reply string_forms string_reply) (spelled_after string_forms string_after) string_shown (bounded_new n)

-- the replies once a container of this capacity is made, and to the lines that come for it
abbrev pub replies_from_ready : Container → ℕ → List LimitedLine → List ℕ
replies_from_ready container n lines = with_line_feed (codes "ready") ++ container_replies container n lines

-- the replies to a header and the lines after it
abbrev pub replies_from_header : Header → List LimitedLine → List ℕ
replies_from_header header lines = replies_from_ready header.container (capacity_of header.storage) lines

-- the replies to a line that may be a header, and to the lines after it; others: the replies to these if it is none
abbrev pub replies_to_opening : Option Header → List LimitedLine → List ℕ → List ℕ
replies_to_opening None lines others = with_line_feed (codes "?") ++ others
replies_to_opening (Some header) lines others = replies_from_header header lines

-- the replies to lines; the first line that is a header makes a container
abbrev pub script_replies : List LimitedLine → List ℕ
script_replies [] = []
script_replies (line ∷ lines) = replies_to_opening (option_and_then header_of line) lines (script_replies lines)

-- the replies to an input
unfoldable pub replies_to : List ℕ → List ℕ
replies_to input = script_replies (map limited_line (lines_of input))
