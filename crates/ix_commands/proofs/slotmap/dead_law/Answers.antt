use Rattle.ix_commands.proofs.DeadKeys.{DeadStaysDead-formed}
use Rattle.ix_commands.proofs.slotmap.dead_law.Goals as goal

pub returns : goal.returns
returns g c = DeadStaysDead-formed
