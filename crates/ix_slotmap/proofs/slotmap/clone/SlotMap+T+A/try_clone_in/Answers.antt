use Rattle.std.proofs.Common.{sym, ap, ◌∙◌, subst}
use Rattle.ix_slottable.specs.SlotTableCopies.{IsCloneAt, SlotTableIsClone}
use Rattle.ix_slotmap.specs.Generations.{SlotMapState}
use Rattle.ix_slotmap.specs.inner.Words.{word_generations}
use Rattle.ix_slotmap.proofs.SlotMapCopies.{HasWords-clone, state_of_clone}
use Rattle.ix_slotmap.proofs.slotmap.clone.SlotMap+T+A.try_clone_in.Goals as goal

pub invariant_of-result : goal.invariant_of-result
invariant_of-result g c =
    HasWords-clone g.T.Clone.is_clone c.self.inside.slots c.clone_contents.new.slots c.self.inside.words c.copy_of-words.result c.self.inside.retired
    (subst (λ (s : SlotMapState g.row.T.Denot). SlotTableIsClone (IsCloneAt g.T.Clone.is_clone) s.slots c.clone_contents.new.slots) (sym c.self.view_is) c.in_ok-clone_contents.ensures.clones)
    c.copy_of-words.ensures c.self.invariant

pub returns-clause-value : goal.returns-clause-value
returns-clause-value g c =
    state_of_clone g.T.Clone.is_clone c.args.self.now c.clone_contents.new.slots c.copy_of-words.result c.requires c.in_ok-clone_contents.ensures.clones
    (ap word_generations c.copy_of-words.ensures ∙ ap (λ (s : SlotMapState g.row.T.Denot). s.generations) c.self.view_is)
