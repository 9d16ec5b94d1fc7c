use Rattle.ix_string.proofs.Matches.{ends_with-EndsWith}
use Rattle.ix_string.proofs.string.string_trait.String.ends_with.Goals as goal

pub returns : goal.returns
returns g c =
    let text = (g.Self.String.bounded c.args.self.now).items in
    rw (c.ends_with.ensures.value, c.as_bytes.ensures.value) (ends_with-EndsWith text c.args.bytes.now)
