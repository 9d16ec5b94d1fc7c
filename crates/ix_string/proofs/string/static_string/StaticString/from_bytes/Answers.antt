use Rattle.std.proofs.Common.{arith}
use Rattle.ix_string.proofs.Texts.{IsText-not}
use Rattle.ix_string.proofs.string.static_string.StaticString.from_bytes.Goals as goal

pub returns-then-not-is_text : goal.returns-then-not-is_text
returns-then-not-is_text g c = (omega arith, IsText-not c.args.bytes.now (cc))
