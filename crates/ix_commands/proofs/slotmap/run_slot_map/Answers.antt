use Rattle.ix_commands.proofs.DeadKeys.{DeadStaysDead-formed}
use Rattle.ix_commands.proofs.slotmap.run_slot_map.Goals as goal

pub returns-clause-dead : goal.returns-clause-dead
returns-clause-dead g c = DeadStaysDead-formed c.args.map.now c.args.commands.now c.len.ensures.formed
