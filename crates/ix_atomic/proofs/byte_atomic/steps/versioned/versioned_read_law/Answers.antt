use Rattle.ix_atomic.proofs.VersionedReads.{versioned_read}
use Rattle.ix_atomic.proofs.byte_atomic.steps.versioned.versioned_read_law.Goals as goal

pub returns : goal.returns
returns c = versioned_read
