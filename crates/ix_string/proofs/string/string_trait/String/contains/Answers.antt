use Rattle.ix_string.proofs.Matches.{IsFirstMatch-HasSubslice}
use Rattle.ix_string.proofs.string.string_trait.String.contains.Goals as goal

pub returns : goal.returns
returns g c =
    let text = (g.Self.String.bounded c.args.self.now).items in
    rw c.is_some.ensures (IsFirstMatch-HasSubslice text c.args.needle.now c.find.result c.find.ensures)
