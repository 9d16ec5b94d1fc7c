use Rattle.ix_vector.proofs.Shifts.{put_mid-first_last}
use Rattle.ix_vector.proofs.vector.insert.move_to_end.Goals as goal

pub returns : goal.returns
returns g c = rw c.first_to_end.ensures (put_mid-first_last c.args.items.now c.args.index c.requires)
