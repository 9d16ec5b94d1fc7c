use Rattle.std.proofs.Common.{length, sym, ap, ◌∙◌, arith}
use Rattle.std.proofs.lemmas.List.{ext_get_or, get_or-replicate, length-replicate}
use Rattle.ix_hashmap.specs.inner.HashChains.{no_link}
use Rattle.ix_hashmap.proofs.hashmap.chain_table.ChainTable.clear.Goals as goal

pub returns : goal.returns
returns g c =
    let at = c.loop-number.invariant in
    let ended = c.loop-number-test.false in
    let len = at.len in
    let all = c.len-number-end.ensures.value in
    let same = ap length c.self.view_is in
    ext_get_or no_link _ _ (at.len ∙ all ∙ same ∙ sym (length-replicate (length c.args.self.now) no_link)) (λ place below.
    at.emptied place (omega (arith, ended, len, below)) ∙ sym (get_or-replicate (length c.args.self.now) place no_link no_link (omega (arith, below, len, all, same))))
