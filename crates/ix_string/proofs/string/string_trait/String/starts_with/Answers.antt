use Rattle.ix_string.proofs.Matches.{starts_with-MatchesAt}
use Rattle.ix_string.proofs.string.string_trait.String.starts_with.Goals as goal

pub returns : goal.returns
returns g c =
    let text = (g.Self.String.bounded c.args.self.now).items in
    rw (c.starts_with.ensures.value, c.as_bytes.ensures.value) (starts_with-MatchesAt text c.args.bytes.now)
