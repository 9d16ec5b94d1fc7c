use Rattle.std.proofs.Common.{◌++◌, ◌∙◌, ap}
use Rattle.std.proofs.lemmas.Result.{err_from_is_err_and}
use Rattle.ix_vector.proofs.vector.static_vec.StaticVec.try_from_iter.Goals as goal

pub returns-clause-vector : goal.returns-clause-vector
returns-clause-vector g c =
    let ran = c.in_ok-extend_from_iter.ensures.vector in
    let run = ran.2 in
    let items = ap (λ vector. vector.items) run.3 ∙ ap (λ xs. xs ++ run.0.items) c.new-vector.ensures in
    (ran.0, ran.1, (run.0, run.1, run.2, items))

pub returns-in_err-extend_from_iter-clause-full : goal.returns-in_err-extend_from_iter-clause-full
returns-in_err-extend_from_iter-clause-full g c =
    let is = err_from_is_err_and c.from_residual.result c.from_residual.ensures.1 in
    rw is.1 (rw c.new-vector.ensures at c.in_err-extend_from_iter.ensures.full)
