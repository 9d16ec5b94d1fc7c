-- `StringRun` by its old names.
pub use Rattle.ix_commands.specs.StringRun.{string_reply_error as text_reply_error, match_indexes, string_strip_prefix as text_strip_prefix, string_strip_suffix as text_strip_suffix, string_drop as text_drop, string_insert_reply as text_insert_reply, string_insert_after as text_insert_after, string_reply as text_reply, string_after as text_after}
