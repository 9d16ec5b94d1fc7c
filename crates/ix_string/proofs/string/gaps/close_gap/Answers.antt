use Rattle.std.proofs.Common.{◌≡◌, ◌-◌, length, take, drop, arith}
use Rattle.std.proofs.lemmas.Grind.{common_steps}
use Rattle.ix_string.proofs.Gaps.{put_mid-closed}
use Rattle.ix_string.proofs.string.gaps.close_gap.Goals as goal

pub returns : goal.returns
returns c =
    let range = c.requires.range in
    let room = c.requires.room in
    let buffer = c.args.buffer.now in
    let i = c.args.idx in
    let n = c.args.n in
    let k = c.args.len - i in
    let long : length (take k (drop i buffer)) ≡ k = grind (arith, common_steps) in
    rw (c.copy_within.ensures.after, long) (put_mid-closed buffer i n (k - n) k c.args.len (c.args.len - n) (omega arith) (omega arith) (omega arith))
