use Rattle.std.proofs.Common.{◌≡◌, ◌*◌}
use Rattle.ix_atomic.proofs.ArrayEncodings.{DecodesFront}
use Rattle.ix_atomic.proofs.byte_atomic.value_arrays.decode_array.Given as goal

abbrev pub invariant-loop-i : goal.invariant-loop-i
invariant-loop-i g l =
    (l.start ≡ l.i * g.T.AtomicCopy.SIZE)
    × DecodesFront g.T.AtomicCopy.is_value g.T.AtomicCopy.encoding g.T.AtomicCopy.SIZE l.bytes g.row.N l.i l.values
