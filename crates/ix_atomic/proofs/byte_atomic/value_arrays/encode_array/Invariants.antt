use Rattle.std.proofs.Common.{◌≡◌, ◌*◌, ◌++◌, take, drop, All}
use Rattle.std.specs.List.{flat_map}
use Rattle.ix_atomic.proofs.byte_atomic.value_arrays.encode_array.Given as goal

abbrev pub invariant-loop-value : goal.invariant-loop-value
invariant-loop-value g l =
    (l.start ≡ l.value-index * g.T.AtomicCopy.SIZE)
    × All g.T.AtomicCopy.is_value (take l.value-index l.values)
    × (l.out ≡ flat_map g.T.AtomicCopy.encoding (take l.value-index l.values) ++ drop l.start l.initial.out)
