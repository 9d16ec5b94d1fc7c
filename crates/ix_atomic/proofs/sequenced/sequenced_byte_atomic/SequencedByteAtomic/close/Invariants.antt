use Rattle.std.proofs.Common.{◌≡◌, ℕ, ◌*◌, List, take, drop, length}
use Rattle.std.specs.Slots.{slots_items}
use Rattle.ix_atomic.specs.inner.DataWords.{words_of}
use Rattle.ix_atomic.proofs.Beginnings.{AreBelow}
use Rattle.ix_atomic.proofs.sequenced.sequenced_byte_atomic.SequencedByteAtomic.close.Given as goal

abbrev pub invariant-loop-i : goal.invariant-loop-i
invariant-loop-i g l = (length l.bytes ≡ g.row.SIZE)
    × ((bytes : List ℕ) → AreBelow 256 bytes → length bytes ≡ g.row.SIZE → drop 1 (slots_items l.closed.words) ≡ words_of bytes → take (8 * l.i) l.bytes ≡ take (8 * l.i) bytes)
