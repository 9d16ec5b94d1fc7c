use Rattle.std.proofs.Common.{ap, ◌∙◌}
use Rattle.ix_flatmap.proofs.map.kinds.HeapMap+K+V+A+I.memory_size.Goals as goal

pub returns-clause-value : goal.returns-clause-value
returns-clause-value g c = c.memory_size-2.ensures.value ∙ ap (λ pairs. g.I.HeapIndex.memory pairs c.args.capacity) c.memory_size.ensures.value

pub returns-clause-monotone : goal.returns-clause-monotone
returns-clause-monotone g c greater le = c.memory_size-2.ensures.monotone _ greater (c.memory_size.ensures.monotone greater le) le

pub returns-clause-none : goal.returns-clause-none
returns-clause-none g c none = c.memory_size-2.ensures.none (c.memory_size.ensures.none none) none
