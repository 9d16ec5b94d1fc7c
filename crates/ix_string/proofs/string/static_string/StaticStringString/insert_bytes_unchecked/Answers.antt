use Rattle.std.proofs.Common.{◌≡◌, ◌+◌, length, take, arith}
use Rattle.std.proofs.lemmas.Grind.{common_steps}
use Rattle.std.specs.List.{insert_slice}
use Rattle.ix_string.proofs.Texts.{drop-IsPadded, IsPadded-from_text, IsText-insert_slice}
use Rattle.ix_string.proofs.string.static_string.StaticStringString.insert_bytes_unchecked.Goals as goal

pub invariant_of-self : goal.invariant_of-self
invariant_of-self g c =
    let was = c.self.invariant in
    let padded = c.self.inside.bytes in
    let count = c.self.inside.count in
    let text = take count padded in
    let bytes = c.args.bytes.now in
    let n = length bytes in
    let index = c.requires.index in
    let room = c.requires.room in
    let zeros = drop-IsPadded g.row.CAPACITY count padded n was in
    let longer : length (insert_slice text c.args.idx bytes) ≡ count + n = grind (arith, common_steps) in
    IsPadded-from_text g.row.CAPACITY (count + n) (insert_slice text c.args.idx bytes) c.open_gap.new.buffer (rw (c.open_gap.ensures, zeros)) longer (grind (arith, common_steps))
    (IsText-insert_slice text c.args.idx bytes was.text c.requires.text)
