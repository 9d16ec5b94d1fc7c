-- A run sees the items of a slice, and not its address.
use Rattle.std.proofs.Common.{ℕ, ◌≡◌, refl}
use Rattle.ix_tables.specs.Bounded.{Bounded}
use Rattle.ix_commands.specs.VectorRun.{vector_reply, vector_after}
use Rattle.ix_commands.specs.StringRun.{string_reply, string_after}
use Rattle.ix_commands.specs.declared.command.VectorCommand.{VectorCommand}
use Rattle.ix_commands.specs.declared.command.VectorCommand.TheVariants as vec
use Rattle.ix_commands.specs.declared.command.StringCommand.{StringCommand}
use Rattle.ix_commands.specs.declared.command.StringCommand.TheVariants as text
use Rattle.ix_run.specs.Forms.{vector_plain, string_plain}

pub vector_reply-plain : (items : Bounded ℕ) (command : VectorCommand ℕ) → vector_reply items (vector_plain command) ≡ vector_reply items command
vector_reply-plain items (vec.Extend xs) = refl
vector_reply-plain items other = refl

pub vector_after-plain : (items : Bounded ℕ) (command : VectorCommand ℕ) → vector_after items (vector_plain command) ≡ vector_after items command
vector_after-plain items (vec.Extend xs) = refl
vector_after-plain items other = refl

pub string_reply-plain : (bytes : Bounded ℕ) (command : StringCommand) → string_reply bytes (string_plain command) ≡ string_reply bytes command
string_reply-plain bytes (text.Append bs) = refl
string_reply-plain bytes (text.InsertBytes i bs) = refl
string_reply-plain bytes (text.Find bs) = refl
string_reply-plain bytes (text.Rfind bs) = refl
string_reply-plain bytes (text.StripPrefix bs) = refl
string_reply-plain bytes (text.StripSuffix bs) = refl
string_reply-plain bytes other = refl

pub string_after-plain : (bytes : Bounded ℕ) (command : StringCommand) → string_after bytes (string_plain command) ≡ string_after bytes command
string_after-plain bytes (text.Append bs) = refl
string_after-plain bytes (text.InsertBytes i bs) = refl
string_after-plain bytes (text.Find bs) = refl
string_after-plain bytes (text.Rfind bs) = refl
string_after-plain bytes (text.StripPrefix bs) = refl
string_after-plain bytes (text.StripSuffix bs) = refl
string_after-plain bytes other = refl
