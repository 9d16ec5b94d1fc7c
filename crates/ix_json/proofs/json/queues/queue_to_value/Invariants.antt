use Rattle.std.proofs.Common.{◌≡◌, ◌++◌, List}
use Rattle.ix_json.proofs.Entries.{AreForms}
use Rattle.ix_json.proofs.json.queues.queue_to_value.Given as goal

-- the items so far, and those that are still to come
abbrev pub invariant-loop-item : goal.invariant-loop-item
invariant-loop-item g l =
    (front : List g.row.T.Denot) × (front ++ l.item-iterator ≡ l.queue.items) × AreForms g.T.JsonForm.read g.T.JsonForm.tree l.entries.items front
