use Rattle.std.proofs.Common.{sym, ◌∙◌}
use Rattle.ix_slottable.proofs.Entries.{IsHeld-front}
use Rattle.ix_flatmap.proofs.flatmap.bound.BoundKeyIndex.find.Goals as goal

pub find_in_front-requires-clause-held : goal.find_in_front-requires-clause-held
find_in_front-requires-clause-held g c place below =
    let counted = sym c.len.ensures.value ∙ c.if-len-self.true in
    IsHeld-front c.args.pairs.now.values c.args.self.now.place place counted c.requires.fits.beyond below
