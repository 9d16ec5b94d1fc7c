-- Replies to commands of containers, as values.
use Rattle.std.specs.Prelude.{Option, None, Some, Result, Ok, Err}
use Rattle.ix_vector.specs.declared.vector.VectorModificationError.{VectorModificationError}
use Rattle.ix_vector.specs.declared.vector.VectorModificationError.TheVariants as vector_error
use Rattle.ix_flatmap.specs.declared.flatmap.MapError.{MapError}
use Rattle.ix_flatmap.specs.declared.flatmap.MapError.TheVariants as map_error
use Rattle.ix_commands.specs.declared.reply.Reply.{Reply}
use Rattle.ix_commands.specs.declared.reply.Reply.TheVariants as reply
use Rattle.ix_commands.specs.declared.reply.ReplyError.{ReplyError}
use Rattle.ix_commands.specs.declared.reply.ReplyError.TheVariants as error

module _ {K X : Type 0} where
  -- an optional element as a reply
  abbrev pub option_reply : Option X → Reply K X
  option_reply None = reply.None
  option_reply (Some x) = reply.Value x

  -- an optional key as a reply
  abbrev pub key_reply : Option K → Reply K X
  key_reply None = reply.None
  key_reply (Some key) = reply.Key key

  -- an optional key with its value as a reply
  abbrev pub entry_reply : Option (K × X) → Reply K X
  entry_reply None = reply.None
  entry_reply (Some entry) = reply.Entry entry.0 entry.1

  -- whether a change was made, or its error
  abbrev pub result_reply : {E : Type 0} → (E → ReplyError) → Result (Unit {0}) E → Reply K X
  result_reply named (Ok u) = reply.Done
  result_reply named (Err e) = reply.Error (named e)

-- the name of an error of a vector; no allocation fails, because nothing is cloned
abbrev pub vector_reply_error : VectorModificationError → ReplyError
vector_reply_error vector_error.OutOfBounds = error.OutOfBounds
vector_reply_error vector_error.InsertWouldExceedCapacity = error.InsertWouldExceedCapacity
vector_reply_error vector_error.OutOfMemory = error.InsertWouldExceedCapacity

-- the name of an error of a flat map
abbrev pub map_reply_error : MapError → ReplyError
map_reply_error map_error.KeyAlreadyExists = error.KeyAlreadyExists
map_reply_error map_error.IsFull = error.IsFull
