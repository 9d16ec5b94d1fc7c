use Rattle.ix_string.proofs.Matches.{IsLastMatch-FindsLastNeedle}
use Rattle.ix_string.proofs.string.string_trait.String.rfind.Goals as goal

pub returns : goal.returns
returns g c = rw c.as_bytes.ensures.value at (IsLastMatch-FindsLastNeedle c.as_bytes.result.now c.args.needle.now c.rfind.result c.rfind.ensures)
