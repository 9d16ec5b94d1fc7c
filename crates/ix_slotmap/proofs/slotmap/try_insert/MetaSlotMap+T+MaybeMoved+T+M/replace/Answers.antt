use Rattle.std.proofs.Common.{Some, ap, ◌∙◌}
use Rattle.ix_slottable.specs.SlotTableSteps.{slot_table_set}
use Rattle.ix_slotmap.specs.Generations.{SlotMapState, slot_map_len}
use Rattle.ix_slotmap.proofs.Words.{replaces, reads_raised, state_of}
use Rattle.ix_slotmap.proofs.SlotMapCounts.{slot_map_len-slot_map_replace}
use Rattle.ix_slotmap.proofs.slotmap.try_insert.MetaSlotMap+T+MaybeMoved+T+M.replace.Goals as goal

pub invariant_of-self : goal.invariant_of-self
invariant_of-self g c =
    (replaces c.self.inside.slots c.self.inside.words c.self.inside.retired c.self.invariant c.args.self.now c.self.view_is c.args.index c.new-place.result c.new-place.ensures _ _ c.requires.held c.args.value c.requires.generation (ap (slot_table_set c.self.inside.slots c.new-place.result) (c.replace-replaced.ensures.after ∙ c.new.ensures)) c.raise-word.ensures.table).0

pub returns-clause-map : goal.returns-clause-map
returns-clause-map g c =
    (replaces c.self.inside.slots c.self.inside.words c.self.inside.retired c.self.invariant c.args.self.now c.self.view_is c.args.index c.new-place.result c.new-place.ensures _ _ c.requires.held c.args.value c.requires.generation (ap (slot_table_set c.self.inside.slots c.new-place.result) (c.replace-replaced.ensures.after ∙ c.new.ensures)) c.raise-word.ensures.table).1

pub returns-clause-raised : goal.returns-clause-raised
returns-clause-raised g c =
    reads_raised c.self.inside.slots c.self.inside.words c.self.inside.retired c.self.invariant c.args.self.now c.self.view_is c.args.index c.new-place.result c.new-place.ensures c.self.inside.slots c.self.inside.words c.requires.held (state_of (slot_table_set c.self.inside.slots c.new-place.result (Some c.args.value)) c.raise-word.new.self)
    (ap (λ (s : SlotMapState g.row.T.Denot). s.generations) (replaces c.self.inside.slots c.self.inside.words c.self.inside.retired c.self.invariant c.args.self.now c.self.view_is c.args.index c.new-place.result c.new-place.ensures _ _ c.requires.held c.args.value c.requires.generation (ap (slot_table_set c.self.inside.slots c.new-place.result) (c.replace-replaced.ensures.after ∙ c.new.ensures)) c.raise-word.ensures.table).1)

pub returns-clause-count : goal.returns-clause-count
returns-clause-count g c = ap slot_map_len (returns-clause-map g c) ∙ slot_map_len-slot_map_replace c.args.self.now c.args.index c.requires.held c.args.value
