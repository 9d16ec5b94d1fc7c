use Rattle.std.proofs.Common.{◌∙◌}
use Rattle.ix_string.proofs.Nul.{nul_position-searched}
use Rattle.ix_string.proofs.string.nul.strnlen.Goals as goal

pub returns : goal.returns
returns c = c.unwrap_or.ensures ∙ nul_position-searched c.args.bytes.now c.args.n c.min-end.result c.memchr.result c.min-end.ensures c.memchr.ensures
