use Rattle.std.proofs.Common.{◌≡◌, ◌<◌, ◌≤◌, ◌+◌, ◌-◌, ◌∷◌, [], ◌++◌, length, take, drop, arith}
use Rattle.std.proofs.lemmas.Grind.{common_steps}
use Rattle.ix_json.proofs.Filling.{IsFilledWith-push, IsFilledWith-all, list_filled-fault, list_filled-too_long}
use Rattle.ix_json.proofs.json.lists.append_items.Goals as goal

pub returns-then-len-remaining_capacity-clause-fault : goal.returns-then-len-remaining_capacity-clause-fault
returns-then-len-remaining_capacity-clause-fault g c =
    let found = rw c.in-Some.is at c.as_array.ensures in
    let old = g.V.Vector.bounded c.args.vector.now in
    let more = c.if-len-remaining_capacity.true in
    let room = c.remaining_capacity.ensures.value in
    let longer : old.capacity - length old.items < length c.in-Some.entries.now.items = grind (arith, common_steps, c.len.ensures, c.in-Some.entries.now.ok) in
    list_filled-too_long g.T.JsonForm.read old _ c.in-Some.entries.now.items found longer

pub returns-in-Err-clause-fault : goal.returns-in-Err-clause-fault
returns-in-Err-clause-fault g c =
    let values = c.in-Some.entries.now.items in
    let i = c.loop-entry.entry-index in
    let value = c.entry-item.result in
    let below = c.loop-entry-test.true in
    let same = c.deref-entry-items.ensures.value in
    let so_far = rw same at c.loop-entry.invariant in
    let parts : values ≡ take i values ++ value ∷ drop (i + 1) values = grind (arith, common_steps, c.entry-item.is) in
    let found = rw c.in-Some.is at c.as_array.ensures in
    let old = g.V.Vector.bounded c.args.vector.now in
    let room = c.remaining_capacity.ensures.value in
    let within = c.if-len-remaining_capacity.false in
    let fits : length values ≤ old.capacity - length old.items = grind (arith, common_steps, c.len.ensures, c.in-Some.entries.now.ok) in
    list_filled-fault g.T.JsonForm.read old _ values (take i values) (drop (i + 1) values) value (g.V.Vector.bounded c.loop-entry.vector) c.in-Err.fault found fits parts so_far c.in-Err.ensures.value

pub loop-entry-preserved : goal.loop-entry-preserved
loop-entry-preserved g c =
    let values = c.deref-entry-items.result.now in
    let i = c.loop-entry.entry-index in
    let value = c.entry-item.result in
    let below = c.loop-entry-test.true in
    let next : take (i + 1) values ≡ take i values ++ value ∷ [] = grind (arith, common_steps, c.entry-item.is) in
    rw next (IsFilledWith-push g.T.JsonForm.read (g.V.Vector.bounded c.args.vector.now) (take i values) value (g.V.Vector.bounded c.loop-entry.vector) _ c.in-Ok.item c.loop-entry.invariant c.in-Ok.ensures.value c.push_unchecked.ensures)

pub returns-clause-filled : goal.returns-clause-filled
returns-clause-filled g c =
    let values = c.in-Some.entries.now.items in
    let done = c.loop-entry-test.false in
    let same = c.deref-entry-items.ensures.value in
    let all : take c.loop-entry.entry-index c.deref-entry-items.result.now ≡ values = grind (arith, common_steps) in
    let found = rw c.in-Some.is at c.as_array.ensures in
    let old = g.V.Vector.bounded c.args.vector.now in
    let room = c.remaining_capacity.ensures.value in
    let within = c.if-len-remaining_capacity.false in
    let fits : length values ≤ old.capacity - length old.items = grind (arith, common_steps, c.len.ensures, c.in-Some.entries.now.ok) in
    IsFilledWith-all g.T.JsonForm.read old _ values _ found fits (rw all at c.loop-entry.invariant)
