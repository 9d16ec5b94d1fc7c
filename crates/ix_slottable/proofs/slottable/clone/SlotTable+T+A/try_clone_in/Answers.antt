use Rattle.ix_slottable.proofs.SlotTableCopies.{SlotTableIsClone-equal}
use Rattle.ix_slottable.proofs.slottable.clone.SlotTable+T+A.try_clone_in.Goals as goal

pub returns-clause-value : goal.returns-clause-value
returns-clause-value g c = SlotTableIsClone-equal g.T.Clone.is_clone c.args.self.now c.fill_with_clones.new.self c.requires c.in_ok-fill_with_clones.ensures.clones
