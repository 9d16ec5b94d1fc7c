use Rattle.std.proofs.Common.{◌∙◌, arith}
use Rattle.std.proofs.lemmas.List.{ext_get_or}
use Rattle.ix_hashmap.specs.inner.HashChains.{no_link}
use Rattle.ix_hashmap.proofs.hashmap.chain_table.ChainTable.copy_of.Goals as goal

pub returns : goal.returns
returns g c =
    let at = c.loop-place.invariant in
    let done = c.loop-place-test.false in
    let all = c.len-place-end.ensures.value in
    let len = c.requires in
    c.new.ensures ∙ ext_get_or no_link _ _ at.len (λ place below. at.copied place (let same = at.len in omega (arith, done, all, len, same, below)))
