use Rattle.ix_run.proofs.run.grammar.header.started.Goals as goal

pub returns-in-SlotMap : goal.returns-in-SlotMap
returns-in-SlotMap c = rw (c.in-SlotMap.is, c.in-Some.is, c.split_word.ensures.words) (c.starting_at.ensures c.in-SlotMap.field-0)
