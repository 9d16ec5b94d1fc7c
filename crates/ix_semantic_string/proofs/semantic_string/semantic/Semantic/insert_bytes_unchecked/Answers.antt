use Rattle.std.proofs.Common.{length, ◌+◌, ◌≤◌, arith, rules}
use Rattle.ix_semantic_string.proofs.Judging.{IsText-inserted, length-insert_slice}
use Rattle.ix_semantic_string.proofs.semantic_string.semantic.Semantic.insert_bytes_unchecked.Goals as goal

pub insert_bytes_unchecked-requires : goal.insert_bytes_unchecked-requires
insert_bytes_unchecked-requires g c =
    let text = c.args.self.now in
    let bytes = c.args.bytes.now in
    let longer = length-insert_slice text c.args.idx bytes c.requires.index in
    let fits = c.requires.accepted.fits in
    let room : length text + length bytes ≤ g.row.CAPACITY = omega arith in
    (search rules, (search rules, (rw c.self.view_is room, IsText-inserted text c.args.idx bytes c.requires.index c.requires.accepted.text)))
