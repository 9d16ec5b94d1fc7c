use Rattle.ix_atomic.proofs.PlainReads.{after_last_write, after_no_write}
use Rattle.ix_atomic.proofs.byte_atomic.steps.plain.plain_read_law.Goals as goal

pub returns-clause-last_write : goal.returns-clause-last_write
returns-clause-last_write c = after_last_write

pub returns-clause-no_write : goal.returns-clause-no_write
returns-clause-no_write c = after_no_write
