-- Definitions that the laws of scripts cite.
use Rattle.std.specs.Prelude.{ℕ, ◌≡◌, ◌<◌, ◌≤◌, ◌^◌, List, [], ◌∷◌, length, Option, Some, map, codes, ⊤}
use Rattle.ix_slotmap.specs.Generations.{SlotKey, greatest_generation}
use Rattle.ix_commands.specs.Run.{run_replies}
use Rattle.ix_commands.specs.declared.reply.Reply.{Reply}
use Rattle.ix_commands.specs.declared.reply.Reply.TheVariants as reply
use Rattle.ix_run.specs.Headers.{IsStorage, IsStart, header_text}
use Rattle.ix_run.specs.Lines.{IsOneLine, text_of_lines}
use Rattle.ix_run.specs.ReplyTexts.{reply_text}
use Rattle.ix_run.specs.Script.{replies_to}
use Rattle.ix_run.specs.Words.{Form, command_of}
use Rattle.ix_run.specs.declared.run.grammar.header.Container.{Container}
use Rattle.ix_run.specs.declared.run.grammar.header.Storage.{Storage}
use Rattle.ix_run.specs.declared.run.devices.limits.TheConstants.{MAX_LINE_LEN}

-- the text of the header of a container
abbrev pub header_line : Container → Storage → List ℕ
header_line c s = header_text (record { container = c; storage = s })

abbrev pub IsU64 : ℕ → Type 0
IsU64 n = n < 2 ^ 64

-- the index is a u64, and the generation is one of a slot map
abbrev pub IsSlotKey : SlotKey → Type 0
IsSlotKey key = IsU64 key.index × (key.generation ≤ greatest_generation)

-- the numbers of a reply are u64s, and this holds of its key
abbrev pub HasU64sAnd : {K : Type 0} → (K → Type 0) → Reply K ℕ → Type 0
HasU64sAnd Is (reply.Number n) = IsU64 n
HasU64sAnd Is (reply.Key k) = Is k
HasU64sAnd Is (reply.Value x) = IsU64 x
HasU64sAnd Is (reply.Entry k x) = Is k × IsU64 x
HasU64sAnd Is other = ⊤

abbrev pub HasU64s : Reply ℕ ℕ → Type 0
HasU64s reply = HasU64sAnd IsU64 reply

-- read: the command that a line spells, if any; text: the text of a reply
module _ {C R : Type 0} (read : List ℕ → Option C) (text : R → List ℕ) where
  -- the line is no longer than a line that is read, and spells the command
  abbrev pub IsLineOf : List ℕ → C → Type 0
  IsLineOf line command = IsOneLine line × (length line ≤ MAX_LINE_LEN) × (read line ≡ Some command)

  -- each line spells the command beside it
  abbrev pub AreLinesOf : List (List ℕ) → List C → Type 0
  AreLinesOf [] [] = ⊤
  AreLinesOf (line ∷ lines) (command ∷ commands) = IsLineOf line command × AreLinesOf lines commands
  AreLinesOf lines commands = ⊥

  -- the replies to a header, and to lines that spell commands, are `ready` and the replies of their run, each on a line
  abbrev pub IsRunBy : {M : Type 0} → (M → C → R) → (M → C → M) → Container → Storage → M → Type 0
  IsRunBy reply after container storage model =
      IsStorage storage → IsStart container → (lines : List (List ℕ)) (commands : List C) → AreLinesOf lines commands
      → replies_to (text_of_lines (header_line container storage ∷ lines)) ≡ text_of_lines (codes "ready" ∷ map text (run_replies reply after model commands))

-- the same by a table of forms
abbrev pub IsRun : {C M : Type 0} → List (Form C) → (M → C → Reply ℕ ℕ) → (M → C → M) → Container → Storage → M → Type 0
IsRun forms reply after container storage model = IsRunBy (command_of forms) reply_text reply after container storage model
