use Rattle.std.proofs.Common.{ap, ap₂, ◌∙◌}
use Rattle.std.specs.Borrow.{u64}
use Rattle.std.specs.Mem.{type_size}
use denote.Param.{layout}
use Rattle.ix_slottable.specs.Memory.{slot_map_memory}
use Rattle.ix_slottable.specs.contracts.slottable.link.Link as link
use Rattle.ix_slotmap.proofs.PlaceSizes.{size-one_field}
use Rattle.ix_tables.specs.Memory.{memory_plus}
use Rattle.ix_slottable.proofs.Memory.{memory_plus-none, slot_map_memory-rises}
use Rattle.ix_slotmap.proofs.slotmap.kinds.SlotMap+T+A.memory_size.Goals as goal

pub returns-clause-value : goal.returns-clause-value
returns-clause-value g c =
    c.saturating_add.ensures ∙ ap₂ memory_plus c.memory_size-slots.ensures.value c.memory_size-words.ensures.value
    ∙ ap (λ place. slot_map_memory place (type_size link.the_row) (type_size u64) c.args.capacity) (size-one_field (layout g.row.T))

pub returns-clause-monotone : goal.returns-clause-monotone
returns-clause-monotone g c greater le = slot_map_memory-rises _ _ _ _ c.args.capacity greater (returns-clause-value g c) le

pub returns-clause-none : goal.returns-clause-none
returns-clause-none g c none = c.saturating_add.ensures ∙ memory_plus-none _ _ (c.memory_size-slots.ensures.none none) (c.memory_size-words.ensures.none none)
