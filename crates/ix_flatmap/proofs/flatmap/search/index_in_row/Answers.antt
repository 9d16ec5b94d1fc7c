use Rattle.std.proofs.Common.{◌+◌, arith}
use Rattle.ix_flatmap.proofs.MapEntries.{HasNoKeyIn-both}
use Rattle.ix_flatmap.proofs.flatmap.search.index_in_row.Goals as goal

pub returns-then-min-eq-BLOCK_LEN-clause-absent : goal.returns-then-min-eq-BLOCK_LEN-clause-absent
returns-then-min-eq-BLOCK_LEN-clause-absent g c none =
    let eq = g.K.PartialEq.eq in
    let map = c.args.pairs.now in
    let key = c.args.key.now in
    let start = c.args.start in
    let left = c.indexes_in_blocks-first.ensures in
    let right = c.indexes_in_blocks-third.ensures in
    let least = c.if-min-eq-BLOCK_LEN.true in
    let of_two = c.min.ensures in
    let of_three = c.min-2.ensures in
    let of_four = c.min-3.ensures in
    let first = left.first.2 (omega (arith, least, of_two, of_three, of_four, left.first.0)) in
    let second = left.second.2 (omega (arith, least, of_two, of_three, of_four, left.second.0)) in
    let third = right.first.2 (omega (arith, least, of_two, of_three, of_four, right.first.0)) in
    let fourth = right.second.2 (omega (arith, least, of_two, of_three, of_four, right.second.0)) in
    HasNoKeyIn-both eq map key start 16 16 (HasNoKeyIn-both eq map key start 8 8 first second) (HasNoKeyIn-both eq map key (start + 16) 8 8 third fourth)
