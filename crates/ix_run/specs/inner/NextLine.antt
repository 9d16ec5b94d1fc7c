-- A reader whose input is taken line by line.
use Rattle.std.specs.Prelude.{ℕ, ◌≡◌, ◌<◌, List, [], ◌∷◌, ◌++◌, Option, Bool, true, false, Result, Ok, Err}
use Rattle.std.specs.Borrow.{MutBor}
use Rattle.std.specs.Io.KnownBytes.{Consumes, IsAtEnd}
use Rattle.ix_run.specs.inner.Faults.{IsDeviceFault}
use Rattle.ix_run.specs.inner.Input.{current_line, lines_to_come}
use Rattle.ix_run.specs.inner.Writing.{WriterAppends, WriterAppendsPart}
use Rattle.ix_run.specs.declared.run.devices.fault.ScriptFault.{ScriptFault}
use Rattle.ix_run.specs.declared.run.devices.line_reader.LineReader.{LineReader}
use Rattle.ix_run.specs.declared.run.devices.reply_writer.ReplyWriter.{ReplyWriter}

-- remaining: the bytes that a reader has left
module _ {R : Type 0} (remaining : R → Option (List ℕ)) where
  -- these bytes were read; nothing after the end
  abbrev pub ReadsFrom : Bool → MutBor R → MutBor R → Bool → List ℕ → Type 0
  ReadsFrom true reader reader' ended' read = (reader' ≡ reader) × (read ≡ []) × (ended' ≡ true)
  ReadsFrom false reader reader' ended' read =
      Consumes (remaining reader.now) (remaining reader'.now) read
      × (ended' ≡ true → IsAtEnd (remaining reader'.now))
      × (reader'.ghost_name ≡ reader.ghost_name)

  abbrev pub Reads : LineReader R → LineReader R → List ℕ → Type 0
  Reads old new read = ReadsFrom old.is_at_end old.reader new.reader new.is_at_end read

-- the bytes that may still be read: nothing after the end
abbrev pub Coming : {R : Type 0} → LineReader R → Type 0
Coming input = (more : List ℕ) × (input.is_at_end ≡ true → more ≡ [])

module _ {R W : Type 0} (remaining : R → Option (List ℕ)) (contents : W → Option (List ℕ)) where
  -- on Ok true the current line is the next one; on Ok false there was none, and none will come; on Err a device failed
  abbrev pub NextLine : LineReader R → ReplyWriter W → LineReader R → ReplyWriter W → Result Bool ScriptFault → Type 0
  NextLine old replies new replies' (Ok true) =
      (read : List ℕ)
      × Reads remaining old new read
      × WriterAppends contents replies [] replies'
      × ((more : Coming new) → lines_to_come old.buffer (read ++ more.0) ≡ current_line new.buffer ∷ lines_to_come new.buffer more.0)
      × (new.buffer.fuel < old.buffer.fuel)
  NextLine old replies new replies' (Ok false) =
      (read : List ℕ)
      × Reads remaining old new read
      × WriterAppends contents replies [] replies'
      × (new.is_at_end ≡ true)
      × (lines_to_come old.buffer read ≡ [])
  NextLine old replies new replies' (Err e) =
      IsDeviceFault e × (read : List ℕ) × Reads remaining old new read × WriterAppendsPart contents replies [] replies'
