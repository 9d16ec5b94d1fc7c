use Rattle.std.proofs.Common.{ap, ◌∙◌, rules}
use Rattle.std.specs.Int.{w16, cast_signed, from_le_bytes}
use Rattle.std.proofs.lemmas.Int.{to_z-of_z}
use Rattle.ix_atomic.proofs.LittleEndian.{signed_decoding}
use Rattle.ix_atomic.proofs.byte_atomic.other_integers.I16AtomicCopy.decode.Goals as goal

pub returns : goal.returns
returns c =
    rw (to_z-of_z w16 c.from_le_bytes.result (search rules))
    (signed_decoding w16 c.args.bytes.now c.from_le_bytes.result c.requires (λ i. (c.type_inv.bytes i).fits)
    (c.from_le_bytes.ensures ∙ ap (λ bytes. cast_signed w16 (from_le_bytes w16 bytes)) c.to_array.ensures) (search rules))
