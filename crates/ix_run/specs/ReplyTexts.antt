-- The texts of replies, and of items that are shown.
use Rattle.std.specs.Prelude.{ℕ, List, [], ◌∷◌, ◌++◌, true, false, codes, decimal}
use Rattle.ix_slotmap.specs.Generations.{SlotKey}
use Rattle.ix_commands.specs.declared.reply.Reply.{Reply}
use Rattle.ix_commands.specs.declared.reply.Reply.TheVariants as reply
use Rattle.ix_commands.specs.declared.reply.ReplyError.{ReplyError}
use Rattle.ix_commands.specs.declared.reply.ReplyError.TheVariants.{OutOfBounds, InsertWouldExceedCapacity, InvalidCharacter, KeyAlreadyExists, IsFull, IndexPastEnd}
use Rattle.ix_run.specs.Words.{key_text}

-- the name of an error
abbrev pub error_name : ReplyError → List ℕ
error_name OutOfBounds = codes "OutOfBounds"
error_name InsertWouldExceedCapacity = codes "InsertWouldExceedCapacity"
error_name InvalidCharacter = codes "InvalidCharacter"
error_name KeyAlreadyExists = codes "KeyAlreadyExists"
error_name IsFull = codes "IsFull"
error_name IndexPastEnd = codes "IndexPastEnd"

-- the text of a reply, by the text of a key
abbrev pub reply_text_by : {K : Type 0} → (K → List ℕ) → Reply K ℕ → List ℕ
reply_text_by text reply.Done = codes "ok"
reply_text_by text (reply.Bool true) = codes "true"
reply_text_by text (reply.Bool false) = codes "false"
reply_text_by text (reply.Number n) = decimal n
reply_text_by text reply.None = codes "none"
reply_text_by text (reply.Key k) = codes "some " ++ text k
reply_text_by text (reply.Value x) = codes "some " ++ decimal x
reply_text_by text (reply.Entry k x) = codes "some " ++ (text k ++ (codes " " ++ decimal x))
reply_text_by text (reply.Error e) = codes "error " ++ error_name e

-- the text of a reply whose keys are numbers
abbrev pub reply_text : Reply ℕ ℕ → List ℕ
reply_text reply = reply_text_by decimal reply

-- the text of a reply of a slot map
abbrev pub slot_map_reply_text : Reply SlotKey ℕ → List ℕ
slot_map_reply_text reply = reply_text_by key_text reply

-- a key and its value
abbrev pub entry_text : (ℕ × ℕ) → List ℕ
entry_text entry = decimal entry.0 ++ (codes "=" ++ decimal entry.1)

-- a key of a slot map and its value
abbrev pub key_entry_text : (SlotKey × ℕ) → List ℕ
key_entry_text entry = key_text entry.0 ++ (codes "=" ++ decimal entry.1)

module _ {X : Type 0} (text : X → List ℕ) where
  -- items, each after a space
  abbrev pub more_items_text : List X → List ℕ
  more_items_text [] = []
  more_items_text (x ∷ items) = codes " " ++ text x ++ more_items_text items

  -- items separated by single spaces, or a dash if there are none
  abbrev pub items_text : List X → List ℕ
  items_text [] = codes "-"
  items_text (x ∷ items) = text x ++ more_items_text items
