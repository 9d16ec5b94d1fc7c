use Rattle.std.proofs.Common.{take}
use Rattle.ix_json.proofs.Filling.{IsFilledWith}
use Rattle.ix_json.proofs.json.lists.append_items.Given as goal

abbrev pub invariant-loop-entry : goal.invariant-loop-entry
invariant-loop-entry g l = IsFilledWith g.T.JsonForm.read (g.V.Vector.bounded l.initial.vector) (take l.entry-index l.entry-items) (g.V.Vector.bounded l.vector)
