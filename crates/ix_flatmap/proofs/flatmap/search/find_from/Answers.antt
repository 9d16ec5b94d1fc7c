use Rattle.std.proofs.Common.{arith}
use Rattle.ix_flatmap.proofs.FlatBounds.{map_entry-ended}
use Rattle.ix_flatmap.proofs.MapEntries.{map_entry_from}
use Rattle.ix_flatmap.proofs.flatmap.search.find_from.Goals as goal

pub loop-place-init : goal.loop-place-init
loop-place-init g c = map_entry_from g.K.PartialEq.eq c.args.pairs.now c.args.key.now c.args.start c.requires.none

pub returns : goal.returns
returns g c =
    let ended = c.loop-place-test.false in
    map_entry-ended g.K.PartialEq.eq c.args.pairs.now c.args.end c.loop-place.place c.args.key.now c.requires.bound (omega (arith, ended)) c.loop-place.invariant
