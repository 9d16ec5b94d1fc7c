use Rattle.std.proofs.Common.{◌*◌, refl, arith}
use Rattle.std.proofs.lemmas.Grind.{common_steps}
use Rattle.std.proofs.lemmas.List.FromFn.{map-range_with_len_more}
use Rattle.examples.proofs.vectors.allocated.Goals as goal

pub loop-i-preserved : goal.loop-i-preserved
loop-i-preserved g c =
    let at = c.loop-i.invariant in
    let i = c.loop-i.i in
    let one_more = map-range_with_len_more (λ k. k * k) 0 i i (omega arith) in
    rw c.push_unchecked.ensures (rw (at.0, one_more) refl, grind (arith, common_steps), at.2)
