use Rattle.std.proofs.Common.{subst}
use Rattle.ix_atomic.specs.Writers.{Writer, AreApart}
use Rattle.ix_atomic.proofs.OwnPlaces.{merge-apart}
use Rattle.ix_atomic.proofs.SequencedCalls.{loaded-HoldsEach}
use Rattle.ix_atomic.proofs.sequenced.sequenced_byte_atomic.SequencedByteAtomic.merge.Goals as goal

pub returns-clause-apart : goal.returns-clause-apart
returns-clause-apart g c =
    subst (λ (seats : Writer g.row.T.Denot × Writer g.row.T.Denot). AreApart seats.0.places seats.1.places) (λ i. (c.seat.view_is i, c.other.view_is i))
    (merge-apart c.seat.inside.seat.me.0.places c.other.inside.seat.me.0.places c.take_in.ensures.loads.1.rising)

pub returns-clause-all : goal.returns-clause-all
returns-clause-all g c = loaded-HoldsEach _ _ _ _ c.take_in.ensures.loads.1
