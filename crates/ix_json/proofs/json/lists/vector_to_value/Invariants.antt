use Rattle.std.proofs.Common.{take}
use Rattle.ix_json.proofs.Entries.{AreForms}
use Rattle.ix_json.proofs.json.lists.vector_to_value.Given as goal

abbrev pub invariant-loop-item : goal.invariant-loop-item
invariant-loop-item g l = AreForms g.T.JsonForm.read g.T.JsonForm.tree l.entries.items (take l.item-index l.item-items)
