use Rattle.std.proofs.Common.{◌≡◌, ◌∷◌, ◌++◌, [], List, length-set, take, drop, refl, sym, subst, ◌∙◌, arith, of_calls, append-nil}
use Rattle.std.specs.Fn.{CalledAtMut}
use Rattle.std.proofs.lemmas.List.{drop_all, take_all}
use Rattle.ix_tables.proofs.Calls.{Callable-now, Callable-on}
use Rattle.ix_queue.specs.QueueCalls.{ChangesInTurn}
use Rattle.ix_queue.proofs.QueueCalls.{items_left, items_left-set, items_before-set, ChangesInTurn-map}
use Rattle.ix_queue.proofs.queue.meta_queue.MetaQueue.for_each_mut.Goals as goal

pub f-requires : goal.f-requires
f-requires g c =
    let at = c.loop-i.invariant in
    let x = c.item_at_mut.result.now in
    Callable-now at.callable x _ (items_left c.loop-i.self.items c.args.self.now.items c.loop-i.i x x c.item_at_mut.ensures.value at.left) c.item_at_mut.result refl

pub loop-i-preserved : goal.loop-i-preserved
loop-i-preserved g c =
    let at = c.loop-i.invariant in
    let items = c.loop-i.self.items in
    let old = c.args.self.now.items in
    let x = c.item_at_mut.result.now in
    let y = c.f.new.arg2 in
    let comes = items_left items old c.loop-i.i x y c.item_at_mut.ensures.value at.left in
    let called : CalledAtMut g.F.FnMut c.loop-i.f x tt c.f.new.self y = search of_calls in
    record {
      capacity = at.capacity;
      len = length-set items c.loop-i.i y ∙ at.len;
      left = items_left-set items old c.loop-i.i x y c.item_at_mut.ensures.value at.left;
      callable = Callable-on at.callable x _ comes c.f.new.self (y, called);
      calls = λ ys last later. subst (λ (changed : List g.row.T.Denot). ChangesInTurn g.F.FnMut c.args.f old changed last)
          (sym (items_before-set items old c.loop-i.i x y c.item_at_mut.ensures.value at.left ys))
          (at.calls (y ∷ ys) last (subst (λ (left : List g.row.T.Denot). ChangesInTurn g.F.FnMut c.loop-i.f left (y ∷ ys) last) (sym comes) (c.f.new.self, called, later)));
    }

pub returns-clause-items : goal.returns-clause-items
returns-clause-items g c =
    let at = c.loop-i.invariant in
    let items = c.loop-i.self.items in
    let old = c.args.self.now.items in
    let none : drop c.loop-i.i old ≡ [] = drop_all c.loop-i.i old (omega arith) in
    let whole : take c.loop-i.i items ++ [] ≡ items = append-nil _ ∙ take_all c.loop-i.i items (omega arith) in (
      c.loop-i.f,
      subst (λ (changed : List g.row.T.Denot). ChangesInTurn g.F.FnMut c.args.f old changed c.loop-i.f) whole
          (at.calls [] c.loop-i.f (subst (λ (left : List g.row.T.Denot). ChangesInTurn g.F.FnMut c.loop-i.f left [] c.loop-i.f) (sym none) refl)),
    )

pub returns-clause-mapped : goal.returns-clause-mapped
returns-clause-mapped g c change says =
    let calls = returns-clause-items g c in
    ChangesInTurn-map g.F.FnMut change _ says _ _ calls.0 calls.1
