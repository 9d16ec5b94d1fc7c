use Rattle.std.proofs.Common.{rules}
use Rattle.ix_atomic.proofs.SequencedKeeps.{new_reader}
use Rattle.ix_atomic.proofs.sequenced.sequenced_byte_atomic.SequencedByteAtomic.reader.Goals as goal

pub split_seat-reader-requires : goal.split_seat-reader-requires
split_seat-reader-requires g c = (search rules, search rules, new_reader _ _ _ c.seat.invariant.1)
