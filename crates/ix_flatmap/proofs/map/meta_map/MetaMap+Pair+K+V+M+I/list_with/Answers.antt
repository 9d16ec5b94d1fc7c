use Rattle.std.proofs.Common.{rules, of_calls, List, sym, subst, refl}
use Rattle.ix_flatmap.specs.MapSteps.{ListsUntilStop}
use Rattle.ix_flatmap.proofs.MapCalls.{ListsUntilStop-continue, ListsUntilStop-stop}
use Rattle.ix_flatmap.proofs.map.meta_map.MetaMap+Pair+K+V+M+I.list_with.Goals as goal

pub loop-key-preserved : goal.loop-key-preserved
loop-key-preserved g c = record {
  callable = search (rules, of_calls);
  calls = λ last later. c.loop-key.invariant.calls last
      (subst (λ (keys : List g.row.K.Denot). ListsUntilStop g.F.FnMut c.loop-key.callback keys last) (sym c.in-Some.ensures.steps)
      (ListsUntilStop-continue g.F.FnMut c.loop-key.callback c.callback.new.self last c.in-Some.key.now _ c.callback.result _ refl c.callback.ensures c.in-Continue.is later));
}

pub returns-in-Stop-clause-calls : goal.returns-in-Stop-clause-calls
returns-in-Stop-clause-calls g c = c.loop-key.invariant.calls c.callback.new.self
    (subst (λ (keys : List g.row.K.Denot). ListsUntilStop g.F.FnMut c.loop-key.callback keys c.callback.new.self) (sym c.in-Some.ensures.steps)
    (ListsUntilStop-stop g.F.FnMut c.loop-key.callback c.callback.new.self c.in-Some.key.now _ c.callback.result _ refl c.callback.ensures c.in-Stop.is))
