-- Which faults come from a device.
use Rattle.std.proofs.Common.{ℕ, ◌≡◌, List}
use Rattle.ix_run.specs.inner.Faults.{IsDeviceFault, LeftUnwritten}
use Rattle.ix_run.specs.declared.run.devices.fault.ScriptFault.{ScriptFault}
use Rattle.ix_run.specs.declared.run.devices.fault.ScriptFault.TheVariants.{Read, Write, OutOfMemory}

pub IsDeviceFault-Write : (x : ScriptFault) → x ≡ Write → IsDeviceFault x
IsDeviceFault-Write x is = rw is tt

-- after a device failed nothing is known of the replies that were not written
pub LeftUnwritten-device : (x : ScriptFault) (replies : List ℕ) → IsDeviceFault x → LeftUnwritten x replies
LeftUnwritten-device Read replies device = tt
LeftUnwritten-device Write replies device = tt
LeftUnwritten-device OutOfMemory replies device = absurd device

pub LeftUnwritten-Write : (x : ScriptFault) (replies : List ℕ) → x ≡ Write → LeftUnwritten x replies
LeftUnwritten-Write x replies is = LeftUnwritten-device x replies (IsDeviceFault-Write x is)

pub IsDeviceFault-Read : (x : ScriptFault) → x ≡ Read → IsDeviceFault x
IsDeviceFault-Read x is = rw is tt
