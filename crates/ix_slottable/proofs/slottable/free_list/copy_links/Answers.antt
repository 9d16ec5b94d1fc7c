use Rattle.std.proofs.Common.{arith}
use Rattle.ix_slottable.proofs.SlotTableCopies.{places_same}
use Rattle.ix_slottable.proofs.slottable.free_list.copy_links.Goals as goal

pub returns : goal.returns
returns g c =
    let at = c.loop-key.invariant in
    let done = c.loop-key-test.false in
    let all = c.len-key-end.ensures.value in
    let len = c.requires.len in
    places_same (g.L.Table.places c.loop-key.links) (g.M.Table.places c.args.others.now) at.len (λ key below. at.copied key (omega (arith, done, all, len, below)))
