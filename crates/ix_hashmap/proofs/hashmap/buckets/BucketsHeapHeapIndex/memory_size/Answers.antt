use Rattle.std.proofs.Common.{ap, ◌∙◌}
use Rattle.std.specs.Mem.{type_size}
use Rattle.ix_tables.specs.Memory.{memory_plus, items_memory}
use Rattle.ix_hashmap.specs.contracts.hashmap.chain_link.ChainLink.{the_row}
use Rattle.ix_slottable.proofs.Memory.{memory_plus-none}
use Rattle.ix_hashmap.proofs.Memory.{memory_plus-rises}
use Rattle.ix_hashmap.proofs.hashmap.buckets.BucketsHeapHeapIndex.memory_size.Goals as goal

pub returns-clause-value : goal.returns-clause-value
returns-clause-value g c = c.saturating_add.ensures ∙ ap (memory_plus c.args.pairs) c.memory_size.ensures.value

pub returns-clause-monotone : goal.returns-clause-monotone
returns-clause-monotone g c greater more pairs le = memory_plus-rises c.saturating_add.result c.args.pairs c.memory_size.result greater (items_memory (type_size the_row) more) c.saturating_add.ensures pairs (c.memory_size.ensures.monotone more le)

pub returns-clause-none : goal.returns-clause-none
returns-clause-none g c pairs none = c.saturating_add.ensures ∙ memory_plus-none _ _ pairs (c.memory_size.ensures.none none)
