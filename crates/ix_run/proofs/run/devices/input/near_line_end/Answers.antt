use Rattle.std.proofs.Common.{Some, refl}
use Rattle.ix_run.proofs.Pieces.{near_line_feed, IsFirstByte-found}
use Rattle.ix_run.proofs.run.devices.input.near_line_end.Goals as goal

pub returns : goal.returns
returns c = IsFirstByte-found c.args.bytes.now (Some _) (near_line_feed c.args.bytes.now _ _ c.if-bytes-lt-NEAR_LEN.false refl c.if-ends-eq0.false refl)
