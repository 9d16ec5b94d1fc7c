use Rattle.ix_string.proofs.Texts.{IsUtf8-text}
use Rattle.ix_string.proofs.string.string_trait.String.as_str.Goals as goal

pub from_utf8_unchecked-requires : goal.from_utf8_unchecked-requires
from_utf8_unchecked-requires g c = IsUtf8-text _ c.as_bytes.ensures.text
