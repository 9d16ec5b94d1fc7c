-- Bytes on their way to a writer: what its contents gained was written, and pending bytes are in a buffer and are written next.
use Rattle.std.specs.Prelude.{ℕ, ◌≡◌, List, ◌++◌, Option, Result, Ok, Err}
use Rattle.std.specs.Io.KnownBytes.{Appends}
use Rattle.ix_run.specs.declared.run.devices.fault.ScriptFault.{ScriptFault}
use Rattle.ix_run.specs.declared.run.devices.fault.ScriptFault.TheVariants as fault
use Rattle.ix_run.specs.declared.run.devices.reply_writer.ReplyWriter.{ReplyWriter}

-- a first part of the bytes was written
abbrev pub AppendsPart : Option (List ℕ) → Option (List ℕ) → List ℕ → Type 0
AppendsPart contents contents' bytes = (written rest : List ℕ) × Appends contents contents' written × (bytes ≡ written ++ rest)

-- contents: the bytes that a writer holds
module _ {W : Type 0} (contents : W → Option (List ℕ)) where
  -- bytes were appended to the pending ones; a first part of all these was written, and the rest is pending
  abbrev pub WriterAppends : ReplyWriter W → List ℕ → ReplyWriter W → Type 0
  WriterAppends old bytes new =
      (written : List ℕ)
      × Appends (contents old.writer.now) (contents new.writer.now) written
      × (old.pending ++ bytes ≡ written ++ new.pending)
      × (new.writer.ghost_name ≡ old.writer.ghost_name)

  -- a first part of the pending bytes and these was written
  abbrev pub WriterAppendsPart : ReplyWriter W → List ℕ → ReplyWriter W → Type 0
  WriterAppendsPart old bytes new =
      (written rest : List ℕ)
      × Appends (contents old.writer.now) (contents new.writer.now) written
      × (old.pending ++ bytes ≡ written ++ rest)
      × (new.writer.ghost_name ≡ old.writer.ghost_name)

  -- on Ok all bytes are written or pending; on Err the writer failed after a first part
  abbrev pub WriteResult : ReplyWriter W → List ℕ → ReplyWriter W → Result (Unit {0}) ScriptFault → Type 0
  WriteResult old bytes new (Ok u) = WriterAppends old bytes new
  WriteResult old bytes new (Err e) = (e ≡ fault.Write) × WriterAppendsPart old bytes new
