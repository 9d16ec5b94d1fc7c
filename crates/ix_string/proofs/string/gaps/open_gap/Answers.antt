use Rattle.std.proofs.Common.{◌+◌, ◌-◌, length, arith}
use Rattle.ix_string.proofs.Gaps.{put_mid-opened}
use Rattle.ix_string.proofs.string.gaps.open_gap.Goals as goal

pub returns : goal.returns
returns c =
    let index = c.requires.index in
    let room = c.requires.room in
    let n = length c.args.bytes.now in
    let i = c.args.idx in
    let m = c.args.len - i in
    rw (c.copy_within.ensures.after, c.copy_from_slice.ensures.after)
    (put_mid-opened c.args.buffer.now c.args.bytes.now i n m (i + n - i) c.args.len (c.args.len + n) (omega arith) (omega arith) (omega arith) (omega arith))
