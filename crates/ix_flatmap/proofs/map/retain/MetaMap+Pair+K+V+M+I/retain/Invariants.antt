use Rattle.ix_flatmap.specs.MapState.{HasDistinctKeys}
use Rattle.ix_flatmap.specs.MapSteps.{map_set, map_remove}
use Rattle.ix_flatmap.specs.MapCalls.{CallAtKey}
use Rattle.ix_slottable.specs.SlotTableCalls.{RetainsItem}
use Rattle.ix_slottable.proofs.Counts.{Thins}
use Rattle.ix_slottable.proofs.SlotTableCalls.{Visited}
use Rattle.ix_flatmap.proofs.MapCalls.{AtPlace, KeysWere}
use Rattle.ix_flatmap.proofs.map.retain.MetaMap+Pair+K+V+M+I.retain.Given as goal

abbrev pub invariant-loop-number : goal.invariant-loop-number
invariant-loop-number g l = record {
  visited : Visited (AtPlace (RetainsItem (map_set g.K.PartialEq.eq) (map_remove g.K.PartialEq.eq) (CallAtKey (goal.F-step g)))) l.fn.f l.fn.self l.number l.f l.self;
  keys : KeysWere l.fn.self l.self;
  distinct : HasDistinctKeys g.K.PartialEq.eq l.self;
  thins : Thins l.fn.self l.self;
}
