use Rattle.std.proofs.Common.{take}
use Rattle.ix_json.proofs.Filling.{IsFilledWith}
use Rattle.ix_json.proofs.json.queues.push_items.Given as goal

abbrev pub invariant-loop-entry : goal.invariant-loop-entry
invariant-loop-entry g l = IsFilledWith g.T.JsonForm.read l.initial.queue (take l.entry-index l.entry-items) l.queue
