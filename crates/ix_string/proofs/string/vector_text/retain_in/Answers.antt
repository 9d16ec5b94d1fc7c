use Rattle.ix_string.proofs.string.vector_text.retain_in.Goals as goal

pub move_kept_back-start-requires-clause-callable : goal.move_kept_back-start-requires-clause-callable
move_kept_back-start-requires-clause-callable g c = rw c.as_mut_slice.ensures.value c.requires.callable
