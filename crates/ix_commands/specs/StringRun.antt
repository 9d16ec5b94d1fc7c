-- The run of a string: the reply to each command, and the string after it.
use Rattle.std.specs.Prelude.{ℕ, ◌+◌, ◌-◌, ◌==◌, List, [], ◌∷◌, length, drop, not, slice_get, nat_le, if◌then◌else◌}
use Rattle.std.specs.List.{filter, starts_with, ends_with, range_with_len}
use Rattle.ix_tables.specs.Bounded.{Bounded, with_items}
use Rattle.ix_vector.specs.VectorSteps.{vec_last, vec_pop, vec_remove, vec_truncate}
use Rattle.ix_string.specs.TextSteps.{text_insert, text_insert_result, text_remove_range}
use Rattle.ix_string.specs.declared.string.modification_error.StringModificationError.{StringModificationError}
use Rattle.ix_string.specs.declared.string.modification_error.StringModificationError.TheVariants as string_error
use Rattle.ix_commands.specs.Replies.{option_reply, key_reply, result_reply}
use Rattle.ix_commands.specs.declared.command.StringCommand.{StringCommand}
use Rattle.ix_commands.specs.declared.command.StringCommand.TheVariants.{Push, Append, Insert, InsertBytes, Pop, Remove, RemoveRange, Find, Rfind, StripPrefix, StripSuffix, Drop, At, Truncate, Clear, Len, Capacity, Empty, Full}
use Rattle.ix_commands.specs.declared.reply.Reply.{Reply}
use Rattle.ix_commands.specs.declared.reply.Reply.TheVariants as reply
use Rattle.ix_commands.specs.declared.reply.ReplyError.{ReplyError}
use Rattle.ix_commands.specs.declared.reply.ReplyError.TheVariants as error

-- the name of an error of a string
abbrev pub string_reply_error : StringModificationError → ReplyError
string_reply_error string_error.InvalidCharacter = error.InvalidCharacter
string_reply_error string_error.InsertWouldExceedCapacity = error.InsertWouldExceedCapacity

-- the indexes at which the needle occurs, the least first
abbrev pub match_indexes : List ℕ → List ℕ → List ℕ
match_indexes text needle = filter (λ i. starts_with ◌==◌ (drop i text) needle) (range_with_len 0 (length text + 1))

-- the bytes removed from the start, if the string starts with them
abbrev pub string_strip_prefix : Bounded ℕ → List ℕ → Bounded ℕ
string_strip_prefix text bytes = if starts_with ◌==◌ text.items bytes then text_remove_range text 0 (length bytes) else text

-- the bytes removed from the end, if the string ends with them
abbrev pub string_strip_suffix : Bounded ℕ → List ℕ → Bounded ℕ
string_strip_suffix text bytes =
    if ends_with ◌==◌ text.items bytes then vec_truncate text (length text.items - length bytes) else text

-- the bytes that are not equal to byte kept
abbrev pub string_drop : Bounded ℕ → ℕ → Bounded ℕ
string_drop text byte = with_items text (filter (λ b. not (b == byte)) text.items)

-- the reply to an insertion at index i
abbrev pub string_insert_reply : Bounded ℕ → ℕ → List ℕ → Reply ℕ ℕ
string_insert_reply text i bytes =
    if nat_le i (length text.items) then result_reply string_reply_error (text_insert_result text bytes)
    else reply.Error error.IndexPastEnd

-- the string after an insertion at index i, which returns an error past the end
abbrev pub string_insert_after : Bounded ℕ → ℕ → List ℕ → Bounded ℕ
string_insert_after text i bytes = if nat_le i (length text.items) then text_insert text i bytes else text

-- the reply to a command
abbrev pub string_reply : Bounded ℕ → StringCommand → Reply ℕ ℕ
string_reply text (Push b) = result_reply string_reply_error (text_insert_result text (b ∷ []))
string_reply text (Append bs) = result_reply string_reply_error (text_insert_result text bs.now)
string_reply text (Insert i b) = string_insert_reply text i (b ∷ [])
string_reply text (InsertBytes i bs) = string_insert_reply text i bs.now
string_reply text Pop = option_reply (vec_last text)
string_reply text (Remove i) = option_reply (slice_get text.items i)
string_reply text (RemoveRange i n) = reply.Bool (nat_le (i + n) (length text.items))
string_reply text (Find bs) = key_reply (slice_get (match_indexes text.items bs.now) 0)
string_reply text (Rfind bs) =
    let indexes = match_indexes text.items bs.now in
    key_reply (slice_get indexes (length indexes - 1))
string_reply text (StripPrefix bs) = reply.Bool (starts_with ◌==◌ text.items bs.now)
string_reply text (StripSuffix bs) = reply.Bool (ends_with ◌==◌ text.items bs.now)
string_reply text (Drop b) = reply.Done
string_reply text (At i) = option_reply (slice_get text.items i)
string_reply text (Truncate n) = reply.Done
string_reply text Clear = reply.Done
string_reply text Len = reply.Number (length text.items)
string_reply text Capacity = reply.Number text.capacity
string_reply text Empty = reply.Bool (length text.items == 0)
string_reply text Full = reply.Bool (length text.items == text.capacity)

-- the string after a command
abbrev pub string_after : Bounded ℕ → StringCommand → Bounded ℕ
string_after text (Push b) = text_insert text (length text.items) (b ∷ [])
string_after text (Append bs) = text_insert text (length text.items) bs.now
string_after text (Insert i b) = string_insert_after text i (b ∷ [])
string_after text (InsertBytes i bs) = string_insert_after text i bs.now
string_after text Pop = vec_pop text
string_after text (Remove i) = vec_remove text i
string_after text (RemoveRange i n) = if nat_le (i + n) (length text.items) then text_remove_range text i n else text
string_after text (Find bs) = text
string_after text (Rfind bs) = text
string_after text (StripPrefix bs) = string_strip_prefix text bs.now
string_after text (StripSuffix bs) = string_strip_suffix text bs.now
string_after text (Drop b) = string_drop text b
string_after text (At i) = text
string_after text (Truncate n) = vec_truncate text n
string_after text Clear = with_items text []
string_after text Len = text
string_after text Capacity = text
string_after text Empty = text
string_after text Full = text
