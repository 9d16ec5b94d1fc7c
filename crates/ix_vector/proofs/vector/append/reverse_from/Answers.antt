use Rattle.ix_vector.proofs.Tails.{put_mid-reverse}
use Rattle.ix_vector.proofs.vector.append.reverse_from.Goals as goal

pub returns : goal.returns
returns g c = rw c.reverse.ensures.after (put_mid-reverse c.args.items.now c.args.at c.requires)
