-- The effect of a script on its reader and its writer, and the report of the program.
use Rattle.std.specs.Prelude.{ℕ, ◌≡◌, List, ◌++◌, Option, Result, Ok, Err, codes}
use Rattle.std.specs.Io.KnownBytes.{Appends, Consumes, IsAtEnd}
use Rattle.ix_run.specs.Lines.{with_line_feed}
use Rattle.ix_run.specs.Script.{replies_to}
use Rattle.ix_run.specs.declared.run.devices.fault.ScriptFault.{ScriptFault}
use Rattle.ix_run.specs.declared.run.devices.fault.ScriptFault.TheVariants.{Read, Write, OutOfMemory}

-- all input was read, and the replies to it were written
abbrev pub WritesReplies : Option (List ℕ) → Option (List ℕ) → Option (List ℕ) → Option (List ℕ) → Type 0
WritesReplies input output input' output' =
    (read : List ℕ) × Consumes input input' read × IsAtEnd input' × Appends output output' (replies_to read)

-- some input was read, and a first part of the replies to it was written
abbrev pub WritesPartOfReplies : Option (List ℕ) → Option (List ℕ) → Option (List ℕ) → Option (List ℕ) → Type 0
WritesPartOfReplies input output input' output' =
    (read written rest : List ℕ) × Consumes input input' read × Appends output output' written × (replies_to read ≡ written ++ rest)

-- the replies from `ready` on
abbrev pub BeginsWithReady : List ℕ → Type 0
BeginsWithReady replies = (rest : List ℕ) × (replies ≡ with_line_feed (codes "ready") ++ rest)

-- some input was read, and the replies to it that come before `ready` were written
abbrev pub WritesRepliesBeforeReady : Option (List ℕ) → Option (List ℕ) → Option (List ℕ) → Option (List ℕ) → Type 0
WritesRepliesBeforeReady input output input' output' =
    (read written rest : List ℕ) × Consumes input input' read × Appends output output' written × (replies_to read ≡ written ++ rest) × BeginsWithReady rest

-- the exit status of the program
abbrev pub outcome_status : Result (Unit {0}) ScriptFault → ℕ
outcome_status (Ok u) = 0
outcome_status (Err Read) = 1
outcome_status (Err Write) = 1
outcome_status (Err OutOfMemory) = 2

abbrev pub script_fault_text : ScriptFault → List ℕ
script_fault_text Read = codes "read fault"
script_fault_text Write = codes "write fault"
script_fault_text OutOfMemory = codes "out of memory"

-- the line that names a fault on standard error
abbrev pub fault_text : ScriptFault → List ℕ
fault_text Read = codes "boxes: read fault"
fault_text Write = codes "boxes: write fault"
fault_text OutOfMemory = codes "boxes: out of memory"
