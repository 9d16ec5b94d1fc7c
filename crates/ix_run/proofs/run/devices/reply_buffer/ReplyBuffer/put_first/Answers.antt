use Rattle.std.proofs.Common.{◌+◌, ◌-◌, length, sym, arith}
use Rattle.ix_run.proofs.Pieces.{take-put_first}
use Rattle.ix_run.proofs.run.devices.reply_buffer.ReplyBuffer.put_first.Goals as goal

pub returns : goal.returns
returns c =
    let inside = c.self.inside in
    let bytes = c.args.bytes.now in
    rw (sym c.self.view_is, c.copy_from_slice.ensures.after) (take-put_first inside.len (inside.len + length bytes - inside.len) c.args.len inside.bytes bytes c.requires.within (omega (arith, c.self.invariant.0, c.self.invariant.1)))
