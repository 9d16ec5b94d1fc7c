use Rattle.std.proofs.Common.{arith, rules}
use Rattle.std.proofs.lemmas.Grind.{common_steps}
use Rattle.ix_queue.proofs.QueueClones.{AllZip-next}
use Rattle.ix_queue.proofs.queue.meta_queue.MetaQueue.fill_with_clones.Goals as goal

pub loop-i-preserved : goal.loop-i-preserved
loop-i-preserved g c =
    let at = c.loop-i.invariant in record {
      capacity = search rules;
      len = grind (arith, common_steps);
      clones = rw c.append.ensures (AllZip-next g.T.Clone.is_clone c.args.other.now.items c.loop-i.self.items c.loop-i.i c.item_at.result.now c.in_ok-item.item c.item_at.ensures.value at.clones c.in_ok-item.ensures.cases);
    }
