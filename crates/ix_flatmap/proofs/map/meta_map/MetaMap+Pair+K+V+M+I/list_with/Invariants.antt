use denote.Param.Always.{always_mut}
use Rattle.ix_flatmap.specs.MapState.{map_keys}
use Rattle.ix_flatmap.specs.MapSteps.{ListsUntilStop}
use Rattle.ix_flatmap.proofs.map.meta_map.MetaMap+Pair+K+V+M+I.list_with.Given as goal

-- where the calls with the keys that are left lead, the calls with all keys lead
abbrev pub invariant-loop-key : goal.invariant-loop-key
invariant-loop-key g l = record {
  callable : always_mut g.F.FnMut l.initial.callback → always_mut g.F.FnMut l.callback;
  calls : (last : _) → ListsUntilStop g.F.FnMut l.callback l.key-iterator last → ListsUntilStop g.F.FnMut l.fn.callback (map_keys l.self) last;
}
