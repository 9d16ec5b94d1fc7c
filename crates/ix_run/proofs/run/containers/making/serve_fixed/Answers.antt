use Rattle.ix_run.proofs.run.containers.making.serve_fixed.Goals as goal

pub returns-in-Zero : goal.returns-in-Zero
returns-in-Zero g c = rw c.in-Zero.is c.serve_inline.ensures

pub returns-in-One : goal.returns-in-One
returns-in-One g c = rw c.in-One.is c.serve_inline-in-One.ensures

pub returns-in-Three : goal.returns-in-Three
returns-in-Three g c = rw c.in-Three.is c.serve_inline-in-Three.ensures

pub returns-in-Eight : goal.returns-in-Eight
returns-in-Eight g c = rw c.in-Eight.is c.serve_inline-in-Eight.ensures
