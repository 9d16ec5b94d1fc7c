use Rattle.ix_flatmap.specs.MapDrain.{drain_items, drain_left, drain_lender}
use Rattle.ix_slottable.proofs.Entries.{count_by-is_some}
use Rattle.ix_slottable.proofs.Draining.{Draining-keeps_along}
use Rattle.ix_slottable.proofs.Counts.{held_count-slot_table_clear, free-slot_table_clear}
use Rattle.ix_flatmap.proofs.map.drain.MetaMap+Pair+K+V+M+I.drain.Goals as goal

pub invariant_of-result : goal.invariant_of-result
invariant_of-result g c = record { counted = count_by-is_some 0 c.args.self.now.values }

pub returns-clause-stays : goal.returns-clause-stays
returns-clause-stays g c = Draining-keeps_along drain_items drain_lender drain_left _

pub returns-clause-count : goal.returns-clause-count
returns-clause-count g c = held_count-slot_table_clear c.args.self.now

pub returns-clause-room : goal.returns-clause-room
returns-clause-room g c = free-slot_table_clear c.args.self.now c.len-len.ensures.rest
