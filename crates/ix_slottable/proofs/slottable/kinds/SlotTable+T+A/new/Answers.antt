use Rattle.ix_tables.proofs.VacantTables.{IsVacant-replicate, replicate-same_length}
use Rattle.ix_slottable.proofs.slottable.kinds.SlotTable+T+A.new.Goals as goal

pub over-requires-clause-values : goal.over-requires-clause-values
over-requires-clause-values g c = IsVacant-replicate _ c.in_ok-values.ensures.value

pub over-requires-clause-links : goal.over-requires-clause-links
over-requires-clause-links g c = replicate-same_length _ c.in_ok-values.ensures.value c.in_ok-links.ensures.value
