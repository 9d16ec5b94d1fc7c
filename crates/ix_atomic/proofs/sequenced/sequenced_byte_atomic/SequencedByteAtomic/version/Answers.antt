use Rattle.std.proofs.Common.{rules}
use Rattle.ix_atomic.proofs.SequencedKeeps.{load_version}
use Rattle.ix_atomic.proofs.sequenced.sequenced_byte_atomic.SequencedByteAtomic.version.Goals as goal

pub load-requires : goal.load-requires
load-requires g c = (search rules, search rules, load_version _ _ _ _ c.seat.invariant.1)
