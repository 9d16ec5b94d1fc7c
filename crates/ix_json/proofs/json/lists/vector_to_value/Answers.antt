use Rattle.std.proofs.Common.{◌≡◌, ◌∙◌, ◌∷◌, [], ◌++◌, ◌+◌, take, ap, sym, arith}
use Rattle.std.proofs.lemmas.Grind.{common_steps}
use Rattle.serde_json.proofs.Views.{view-Array}
use Rattle.serde_json.specs.Data.{array}
use Rattle.serde_json.specs.Find.{as_array}
use Rattle.serde_json.specs.View.{items_of}
use Rattle.ix_json.proofs.Entries.{AreForms-push, list_read-AreForms}
use Rattle.ix_json.proofs.json.lists.vector_to_value.Goals as goal

pub loop-item-preserved : goal.loop-item-preserved
loop-item-preserved g c =
    let items = c.as_slice-item-items.result.now in
    let i = c.loop-item.item-index in
    let item = c.item-item.result in
    let below = c.loop-item-test.true in
    let at = c.item-item.is in
    let next : take (i + 1) items ≡ take i items ++ item ∷ [] = grind (arith, common_steps) in
    let pushed : c.push.new.self.items ≡ c.loop-item.entries.items ++ c.in_ok-entry.entry ∷ [] = grind (arith, common_steps) in
    let back = c.in_ok-entry.ensures.read_back (g.met.T.JsonItem.always_read_back item) in
    rw next (rw pushed (AreForms-push g.T.JsonForm.read g.T.JsonForm.tree _ _ _ _ c.loop-item.invariant c.in_ok-entry.ensures.value back))

pub returns-clause-value : goal.returns-clause-value
returns-clause-value g c =
    let same = c.as_slice-item-items.ensures.value in
    let done = c.loop-item-test.false in
    let all : take c.loop-item.item-index c.as_slice-item-items.result.now ≡ (g.V.Vector.bounded c.args.vector.now).items = grind (arith, common_steps) in
    view-Array c.loop-item.entries ∙ ap (λ trees. array (items_of trees)) (rw all at c.loop-item.invariant.trees)

pub returns-clause-read_back : goal.returns-clause-read_back
returns-clause-read_back g c =
    let same = c.as_slice-item-items.ensures.value in
    let done = c.loop-item-test.false in
    let all : take c.loop-item.item-index c.as_slice-item-items.result.now ≡ (g.V.Vector.bounded c.args.vector.now).items = grind (arith, common_steps) in
    list_read-AreForms g.T.JsonForm.read g.T.JsonForm.tree (g.V.Vector.bounded c.args.vector.now).capacity _ _ _ (sym (ap as_array (view-Array c.loop-item.entries))) (rw all at c.loop-item.invariant) c.len.ensures.within
