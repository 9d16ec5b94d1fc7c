-- Each reply is one line.
use Rattle.std.proofs.Common.{ℕ, ◌≡◌, List, [], ◌∷◌, ◌++◌, All, nat_eq, true, false, refl, decimal, codes, arith, rules}
use Rattle.std.proofs.lemmas.Grind.{common_steps}
use Rattle.std.proofs.lemmas.List.Elements.{All-head, All-tail}
use Rattle.ix_tables.specs.Bounded.{Bounded}
use Rattle.ix_commands.specs.declared.reply.Reply.{Reply}
use Rattle.ix_commands.specs.declared.reply.Reply.TheVariants as reply
use Rattle.ix_commands.specs.declared.reply.ReplyError.{ReplyError}
use Rattle.ix_commands.specs.declared.reply.ReplyError.TheVariants.{OutOfBounds, InsertWouldExceedCapacity, InvalidCharacter, KeyAlreadyExists, IsFull, IndexPastEnd}
use Rattle.ix_string.specs.Escape.{hex_digit, escaped_byte, escaped_text}
use Rattle.ix_run.specs.Laws.{HasU64s, HasU64sAnd, IsSlotKey, IsU64}
use Rattle.ix_slotmap.specs.Generations.{SlotKey}
use Rattle.ix_run.specs.Words.{key_text}
use Rattle.ix_run.specs.Lines.{line_feed, IsOneLine}
use Rattle.ix_run.specs.ReplyTexts.{error_name, reply_text_by, reply_text, slot_map_reply_text, entry_text, key_entry_text, more_items_text, items_text}
use Rattle.ix_run.specs.Script.{string_shown}
use Rattle.ix_run.proofs.Laws.{IsOneLine-Lacks, Lacks-append, Lacks-decimal}
use Rattle.ix_run.proofs.Pieces.{Lacks}

Lacks-error_name : (error : ReplyError) → Lacks (error_name error)
Lacks-error_name OutOfBounds = search rules
Lacks-error_name InsertWouldExceedCapacity = search rules
Lacks-error_name InvalidCharacter = search rules
Lacks-error_name KeyAlreadyExists = search rules
Lacks-error_name IsFull = search rules
Lacks-error_name IndexPastEnd = search rules

Lacks-some : (text : List ℕ) → Lacks text → Lacks (codes "some " ++ text)
Lacks-some text h = Lacks-append (codes "some ") text (search rules) h

module _ {K : Type 0} (text : K → List ℕ) (Is : K → Type 0) (lacks : (key : K) → Is key → Lacks (text key)) where
  Lacks-reply_text_by : (reply : Reply K ℕ) → HasU64sAnd Is reply → Lacks (reply_text_by text reply)
  Lacks-reply_text_by reply.Done h = search rules
  Lacks-reply_text_by (reply.Bool true) h = search rules
  Lacks-reply_text_by (reply.Bool false) h = search rules
  Lacks-reply_text_by (reply.Number n) h = Lacks-decimal n h
  Lacks-reply_text_by reply.None h = search rules
  Lacks-reply_text_by (reply.Key k) h = Lacks-some (text k) (lacks k h)
  Lacks-reply_text_by (reply.Value x) h = Lacks-some (decimal x) (Lacks-decimal x h)
  Lacks-reply_text_by (reply.Entry k x) (h, g) =
      Lacks-some (text k ++ (codes " " ++ decimal x)) (Lacks-append (text k) (codes " " ++ decimal x) (lacks k h) (refl, Lacks-decimal x g))
  Lacks-reply_text_by (reply.Error error) h = Lacks-append (codes "error ") (error_name error) (search rules) (Lacks-error_name error)

  IsOneLine-reply_text_by : (reply : Reply K ℕ) → HasU64sAnd Is reply → IsOneLine (reply_text_by text reply)
  IsOneLine-reply_text_by reply h = IsOneLine-Lacks (reply_text_by text reply) (Lacks-reply_text_by reply h)

pub IsOneLine-reply_text : (reply : Reply ℕ ℕ) → HasU64s reply → IsOneLine (reply_text reply)
IsOneLine-reply_text = IsOneLine-reply_text_by decimal IsU64 Lacks-decimal

Lacks-key_text : (key : SlotKey) → IsSlotKey key → Lacks (key_text key)
Lacks-key_text key (h, g) =
    Lacks-append (decimal key.index) (codes ":" ++ decimal key.generation) (Lacks-decimal key.index h) (refl, Lacks-decimal key.generation (omega (arith, g)))

pub IsOneLine-slot_map_reply_text : (reply : Reply SlotKey ℕ) → HasU64sAnd IsSlotKey reply → IsOneLine (slot_map_reply_text reply)
IsOneLine-slot_map_reply_text = IsOneLine-reply_text_by key_text IsSlotKey Lacks-key_text

pub Lacks-key_entry_text : (entry : SlotKey × ℕ) → IsSlotKey entry.0 × IsU64 entry.1 → Lacks (key_entry_text entry)
Lacks-key_entry_text entry (h, g) = Lacks-append (key_text entry.0) (codes "=" ++ decimal entry.1) (Lacks-key_text entry.0 h) (refl, Lacks-decimal entry.1 g)

module _ {X : Type 0} (text : X → List ℕ) (Is : X → Type 0) (lacks : (x : X) → Is x → Lacks (text x)) where
  Lacks-more_items_text : (items : List X) → All Is items → Lacks (more_items_text text items)
  Lacks-more_items_text [] h = tt
  Lacks-more_items_text (x ∷ items) h =
      (refl, Lacks-append (text x) (more_items_text text items) (lacks x (All-head Is x items h)) (Lacks-more_items_text items (All-tail Is x items h)))

  pub IsOneLine-items_text : (items : List X) → All Is items → IsOneLine (items_text text items)
  IsOneLine-items_text [] h = IsOneLine-Lacks (codes "-") (search rules)
  IsOneLine-items_text (x ∷ items) h =
      IsOneLine-Lacks (text x ++ more_items_text text items)
      (Lacks-append (text x) (more_items_text text items) (lacks x (All-head Is x items h)) (Lacks-more_items_text items (All-tail Is x items h)))

pub Lacks-entry_text : (entry : ℕ × ℕ) → IsU64 entry.0 × IsU64 entry.1 → Lacks (entry_text entry)
Lacks-entry_text entry (h, g) = Lacks-append (decimal entry.0) (codes "=" ++ decimal entry.1) (Lacks-decimal entry.0 h) (refl, Lacks-decimal entry.1 g)

hex_digit-lacks : (n : ℕ) → nat_eq (hex_digit n) line_feed ≡ false
hex_digit-lacks n = grind (arith, common_steps)

Lacks-escaped_byte : (b : ℕ) → Lacks (escaped_byte b)
Lacks-escaped_byte b = grind (arith, common_steps, hex_digit-lacks)

Lacks-escaped_text : (bytes : List ℕ) → Lacks (escaped_text bytes)
Lacks-escaped_text [] = tt
Lacks-escaped_text (b ∷ bytes) = Lacks-append (escaped_byte b) (escaped_text bytes) (Lacks-escaped_byte b) (Lacks-escaped_text bytes)

pub IsOneLine-string_shown : (text : Bounded ℕ) → IsOneLine (string_shown text)
IsOneLine-string_shown text =
    IsOneLine-Lacks (string_shown text) (refl, Lacks-append (escaped_text text.items) (codes "\"") (Lacks-escaped_text text.items) (search rules))
