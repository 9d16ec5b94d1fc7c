use Rattle.ix_string.proofs.Matches.{IsFirstMatch-FindsNeedle}
use Rattle.ix_string.proofs.string.string_trait.String.find.Goals as goal

pub returns : goal.returns
returns g c = rw c.as_bytes.ensures.value at (IsFirstMatch-FindsNeedle c.as_bytes.result.now c.args.needle.now c.find.result c.find.ensures)
