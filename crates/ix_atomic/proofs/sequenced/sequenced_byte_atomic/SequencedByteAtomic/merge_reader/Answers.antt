use Rattle.ix_atomic.proofs.SequencedCalls.{loaded-HoldsEach}
use Rattle.ix_atomic.proofs.sequenced.sequenced_byte_atomic.SequencedByteAtomic.merge_reader.Goals as goal

pub returns-clause-all : goal.returns-clause-all
returns-clause-all g c = loaded-HoldsEach _ _ _ _ c.take_in.ensures.loads.1
