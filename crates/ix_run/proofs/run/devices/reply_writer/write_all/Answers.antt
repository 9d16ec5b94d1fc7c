use Rattle.std.proofs.Common.{◌++◌, take, arith}
use Rattle.std.proofs.lemmas.Grind.{common_steps}
use Rattle.ix_run.proofs.KnownBytes.{Appends-append}
use Rattle.ix_run.proofs.run.devices.reply_writer.write_all.Goals as goal

pub loop-rest-preserved : goal.loop-rest-preserved
loop-rest-preserved g c =
    let at = c.loop-rest.invariant in
    let whole = at.1 in
    let bound = c.in_ok-n.ensures.1 in
    (at.0 ++ take c.in_ok-n.n c.loop-rest.rest.now, grind (arith, common_steps), Appends-append _ _ _ at.0 _ at.2 c.in_ok-n.ensures.2)
