use Rattle.ix_string.proofs.Texts.{IsUtf8-text}
use Rattle.ix_string.proofs.string.escape.EscapedByte.as_str.Goals as goal

pub from_utf8_unchecked-requires : goal.from_utf8_unchecked-requires
from_utf8_unchecked-requires c = IsUtf8-text _ c.self.invariant.2
