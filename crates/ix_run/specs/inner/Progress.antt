-- A script on its way. What comes next is not known yet, so the replies that are still to come are a function of it.
use Rattle.std.specs.Prelude.{ℕ, ◌≡◌, List, ◌++◌, true, Option, None, Some, Result, Ok, Err}
use Rattle.ix_run.specs.inner.Faults.{LeftUnwritten}
use Rattle.ix_run.specs.inner.Input.{lines_to_come}
use Rattle.ix_run.specs.inner.NextLine.{Reads, Coming}
use Rattle.ix_run.specs.inner.Writing.{WriterAppends, WriterAppendsPart}
use Rattle.ix_run.specs.Lines.{LimitedLine}
use Rattle.ix_run.specs.Script.{script_replies, replies_from_header}
use Rattle.ix_run.specs.declared.run.devices.fault.ScriptFault.{ScriptFault}
use Rattle.ix_run.specs.declared.run.grammar.header.Header.{Header}
use Rattle.ix_run.specs.declared.run.devices.line_reader.LineReader.{LineReader}
use Rattle.ix_run.specs.declared.run.devices.reply_writer.ReplyWriter.{ReplyWriter}

-- a script on its way: the lines that come, and the replies
abbrev pub Session : Type 0 → Type 0 → Type 0
Session R W = LineReader R × ReplyWriter W

-- the replies to lines, after a header if there was one
abbrev pub opening_replies : Option Header → List LimitedLine → List ℕ
opening_replies None lines = script_replies lines
opening_replies (Some header) lines = replies_from_header header lines

-- the replies to what comes, before a header or after one
abbrev pub opening : {R : Type 0} → Option Header → LineReader R → List ℕ → List ℕ
opening header input more = opening_replies header (lines_to_come input.buffer more)

module _ {R W : Type 0} (remaining : R → Option (List ℕ)) (contents : W → Option (List ℕ)) where
  -- some input was read, and some replies are written or pending; whatever comes, they and the later replies are the old ones
  abbrev pub Drives : Session R W → (List ℕ → List ℕ) → Session R W → (List ℕ → List ℕ) → Type 0
  Drives old replies new replies' =
      (read done : List ℕ)
      × Reads remaining old.0 new.0 read
      × WriterAppends contents old.1 done new.1
      × ((more : Coming new.0) → replies (read ++ more.0) ≡ done ++ replies' more.0)

  -- some input was read, and a first part of the replies to it was written
  abbrev pub Fails : Session R W → (List ℕ → List ℕ) → Session R W → ScriptFault → Type 0
  Fails old replies new e =
      (read : List ℕ)
      × Reads remaining old.0 new.0 read
      × (part : WriterAppendsPart contents old.1 (replies read) new.1)
      × LeftUnwritten e part.1

  -- on Ok all input was read, and the replies to it are written or pending
  abbrev pub ReplyResult : Session R W → (List ℕ → List ℕ) → Session R W → Result (Unit {0}) ScriptFault → Type 0
  ReplyResult old replies new (Ok u) =
      (read : List ℕ)
      × Reads remaining old.0 new.0 read
      × (new.0.is_at_end ≡ true)
      × WriterAppends contents old.1 (replies read) new.1
  ReplyResult old replies new (Err e) = Fails old replies new e

  -- on Ok the next header was read, or there was none in all input that was left
  abbrev pub NextHeader : Session R W → Session R W → Result (Option Header) ScriptFault → Type 0
  NextHeader old new (Ok (Some header)) = Drives old (opening None old.0) new (opening (Some header) new.0)
  NextHeader old new (Ok None) = ReplyResult old (opening None old.0) new (Ok tt)
  NextHeader old new (Err e) = Fails old (opening None old.0) new e
