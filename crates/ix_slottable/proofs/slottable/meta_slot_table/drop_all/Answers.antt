use Rattle.std.proofs.Common.{arith}
use Rattle.ix_slottable.proofs.SlotTables.{IsVacant-from_places}
use Rattle.ix_slottable.proofs.slottable.meta_slot_table.drop_all.Goals as goal

pub returns-clause-values : goal.returns-clause-values
returns-clause-values g c = IsVacant-from_places _ (λ key below. c.loop-key.invariant.no_value key (let len = c.loop-key.invariant.values in omega arith))

pub returns-clause-links : goal.returns-clause-links
returns-clause-links g c = IsVacant-from_places _ (λ key below. c.loop-key.invariant.no_link key (let len = c.loop-key.invariant.links in omega arith))
