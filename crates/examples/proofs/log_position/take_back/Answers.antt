use Rattle.std.proofs.Common.{subst, sym}
use Rattle.ix_atomic.specs.Shares.{IsWhole}
use Rattle.ix_atomic.proofs.Written.{StandAt-longer, merged_values}
use Rattle.examples.proofs.log_position.take_back.Goals as goal

pub returns-clause-seat : goal.returns-clause-seat
returns-clause-seat c values = StandAt-longer _ _ _ values c.merge.ensures.known.0

pub returns-clause-other : goal.returns-clause-other
returns-clause-other c values = StandAt-longer _ _ _ values c.merge.ensures.known.1

pub returns-clause-all : goal.returns-clause-all
returns-clause-all c whole values others set set' version value at =
    let merged = c.merge.ensures in
    merged_values c.merge.new.seat.known c.merge.new.seat.places c.args.seat.now.places c.args.other.places values others merged.places
    (merged.all (subst IsWhole (sym merged.share) whole)) (StandAt-longer _ _ _ values merged.known.0 set) (StandAt-longer _ _ _ others merged.known.1 set') version value at
