use Rattle.std.proofs.Common.{◌≡◌}
use Rattle.ix_flatmap.specs.MapState.{HasDistinctKeys}
use Rattle.ix_flatmap.specs.MapSteps.{map_set}
use Rattle.ix_flatmap.specs.MapCalls.{CallAtKey}
use Rattle.ix_slottable.specs.SlotTableCalls.{ChangesItem}
use Rattle.ix_slottable.proofs.SlotTableCalls.{Visited}
use Rattle.ix_flatmap.proofs.MapCalls.{AtPlace, SameKeys}
use Rattle.ix_flatmap.proofs.map.retain.MetaMap+Pair+K+V+M+I.for_each_mut.Given as goal

abbrev pub invariant-loop-number : goal.invariant-loop-number
invariant-loop-number g l = record {
  visited : Visited (AtPlace (ChangesItem (map_set g.K.PartialEq.eq) (CallAtKey (goal.F-step g)))) l.fn.f l.fn.self l.number l.f l.self;
  keys : SameKeys l.fn.self l.self;
  free : l.self.free ≡ l.fn.self.free;
  distinct : HasDistinctKeys g.K.PartialEq.eq l.self;
}
