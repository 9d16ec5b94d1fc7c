use Rattle.ix_tables.proofs.VacantTables.{IsVacant-replicate}
use Rattle.ix_queue.proofs.queue.kinds.Queue+T+A.new.Goals as goal

pub from_table-requires : goal.from_table-requires
from_table-requires g c = IsVacant-replicate _ c.in_ok-new.ensures.value
