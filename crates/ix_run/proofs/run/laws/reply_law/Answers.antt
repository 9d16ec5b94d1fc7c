use Rattle.ix_run.specs.Laws.{IsSlotKey, IsU64}
use Rattle.ix_run.specs.ReplyTexts.{entry_text, key_entry_text}
use Rattle.ix_run.proofs.Laws.{Lacks-decimal}
use Rattle.ix_run.proofs.ReplyLines.{IsOneLine-reply_text, IsOneLine-slot_map_reply_text, IsOneLine-items_text, Lacks-entry_text, Lacks-key_entry_text, IsOneLine-string_shown}
use Rattle.ix_run.proofs.run.laws.reply_law.Goals as goal
use Rattle.std.specs.Prelude.{decimal}

pub returns-clause-reply : goal.returns-clause-reply
returns-clause-reply c = IsOneLine-reply_text

pub returns-clause-items : goal.returns-clause-items
returns-clause-items c = IsOneLine-items_text decimal IsU64 Lacks-decimal

pub returns-clause-entries : goal.returns-clause-entries
returns-clause-entries c = IsOneLine-items_text entry_text (λ entry. IsU64 entry.0 × IsU64 entry.1) Lacks-entry_text

pub returns-clause-text : goal.returns-clause-text
returns-clause-text c = IsOneLine-string_shown

pub returns-clause-slot_map_reply : goal.returns-clause-slot_map_reply
returns-clause-slot_map_reply c = IsOneLine-slot_map_reply_text

pub returns-clause-key_entries : goal.returns-clause-key_entries
returns-clause-key_entries c = IsOneLine-items_text key_entry_text (λ entry. IsSlotKey entry.0 × IsU64 entry.1) Lacks-key_entry_text
