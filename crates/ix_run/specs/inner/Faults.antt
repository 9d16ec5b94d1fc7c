-- The meaning of an error for the reader, the writer and the replies that were not written.
use Rattle.std.specs.Prelude.{ℕ, List}
use Rattle.ix_run.specs.Outcome.{BeginsWithReady}
use Rattle.ix_run.specs.declared.run.devices.fault.ScriptFault.{ScriptFault}
use Rattle.ix_run.specs.declared.run.devices.fault.ScriptFault.TheVariants.{Read, Write, OutOfMemory}

-- the reader or the writer failed
abbrev pub IsDeviceFault : ScriptFault → Type 0
IsDeviceFault Read = Unit {0}
IsDeviceFault Write = Unit {0}
IsDeviceFault OutOfMemory = ⊥

-- the replies that were not written: if the allocation failed, `ready` and the replies after it
abbrev pub LeftUnwritten : ScriptFault → List ℕ → Type 0
LeftUnwritten Read replies = Unit {0}
LeftUnwritten Write replies = Unit {0}
LeftUnwritten OutOfMemory replies = BeginsWithReady replies
