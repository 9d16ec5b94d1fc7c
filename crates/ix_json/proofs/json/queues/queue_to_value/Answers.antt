use Rattle.std.proofs.Common.{◌≡◌, ◌∙◌, ◌∷◌, [], ◌++◌, ap, sym, arith, append_assoc}
use Rattle.std.proofs.lemmas.Grind.{common_steps}
use Rattle.serde_json.proofs.Views.{view-Array}
use Rattle.serde_json.specs.Find.{as_array}
use Rattle.ix_json.proofs.Entries.{AreForms-push, list_read-AreForms}
use Rattle.ix_json.proofs.json.queues.queue_to_value.Goals as goal

pub loop-item-preserved : goal.loop-item-preserved
loop-item-preserved g c =
    let front = c.loop-item.invariant.0 in
    let item = c.in-Some.item.now in
    let whole = append_assoc front (item ∷ []) c.next.new.self ∙ ap (λ rest. front ++ rest) (sym c.in-Some.ensures.steps) ∙ c.loop-item.invariant.1 in
    let pushed : c.push.new.self.items ≡ c.loop-item.entries.items ++ c.in_ok-entry.entry ∷ [] = grind (arith, common_steps) in
    let back = c.in_ok-entry.ensures.read_back (g.met.T.JsonItem.always_read_back item) in
    let forms = AreForms-push g.T.JsonForm.read g.T.JsonForm.tree c.loop-item.entries.items front c.in_ok-entry.entry item c.loop-item.invariant.2 c.in_ok-entry.ensures.value back in
    (front ++ item ∷ [], whole, rw pushed forms)

pub returns-clause-read_back : goal.returns-clause-read_back
returns-clause-read_back g c =
    let front = c.loop-item.invariant.0 in
    let whole = rw c.in-None.ensures.steps.0 at c.loop-item.invariant.1 in
    let all : front ≡ c.args.queue.now.items = grind (arith, common_steps, whole) in
    list_read-AreForms g.T.JsonForm.read g.T.JsonForm.tree c.args.queue.now.capacity _ _ _ (sym (ap as_array (view-Array c.loop-item.entries))) (rw all at c.loop-item.invariant.2) c.len.ensures.within
