use Rattle.std.proofs.Common.{ap, ◌∙◌}
use Rattle.std.specs.Int.{w64, from_le_bytes}
use Rattle.ix_atomic.proofs.LittleEndian.{unsigned_decoding}
use Rattle.ix_atomic.proofs.byte_atomic.integers.U64AtomicCopy.decode.Goals as goal

pub returns : goal.returns
returns c =
    unsigned_decoding w64 c.args.bytes.now c.from_le_bytes.result c.requires (λ i. (c.type_inv.bytes i).fits)
    (c.from_le_bytes.ensures ∙ ap (from_le_bytes w64) c.to_array.ensures) c.from_le_bytes.type_inv
