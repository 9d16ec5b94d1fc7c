use Rattle.ix_run.proofs.run.containers.making.serve_storage.Goals as goal

pub returns-in-Fixed : goal.returns-in-Fixed
returns-in-Fixed g c = rw c.in-Fixed.is c.serve_fixed.ensures
