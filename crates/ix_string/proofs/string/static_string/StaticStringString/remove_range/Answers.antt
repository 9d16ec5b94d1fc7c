use Rattle.std.proofs.Common.{◌≡◌, ◌+◌, ◌-◌, length, take, arith}
use Rattle.std.proofs.lemmas.Grind.{common_steps}
use Rattle.std.specs.List.{remove_range}
use Rattle.ix_string.proofs.Texts.{IsPadded-shortened, IsText-remove_range}
use Rattle.ix_string.proofs.string.static_string.StaticStringString.remove_range.Goals as goal

pub invariant_of-self : goal.invariant_of-self
invariant_of-self g c =
    let was = c.self.invariant in
    let padded = c.self.inside.bytes in
    let count = c.self.inside.count in
    let text = take count padded in
    let i = c.args.idx in
    let n = c.args.n in
    let first = c.if-idx-len.false in
    let second = c.if-n-len.false in
    let within = was.within in
    let shorter : length (remove_range text i (i + n)) ≡ count - n = grind (arith, common_steps) in
    IsPadded-shortened g.row.CAPACITY count n padded (remove_range text i (i + n)) c.close_gap_with_zeros.new.buffer was (omega arith) shorter
    (IsText-remove_range text i (i + n) was.text) c.close_gap_with_zeros.ensures
