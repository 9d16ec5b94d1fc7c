use Rattle.std.proofs.lemmas.List.Elements.{same_from_all_zip}
use Rattle.std.proofs.lemmas.Result.{on_ok_weaker, on_err_weaker}
use Rattle.ix_vector.proofs.vector.static_vec.StaticVecVector.extend_from_slice_unchecked.Goals as goal

pub returns-clause-vector : goal.returns-clause-vector
returns-clause-vector g c =
    let put = c.append_clones in
    on_ok_weaker put.result
    (λ h. let same = same_from_all_zip _ _ _ h.2 c.requires.clones in let is = h.1 in cc) put.ensures.vector

pub returns-clause-refused : goal.returns-clause-refused
returns-clause-refused g c = on_err_weaker c.append_clones.result (λ is. cc) c.append_clones.ensures.refused
