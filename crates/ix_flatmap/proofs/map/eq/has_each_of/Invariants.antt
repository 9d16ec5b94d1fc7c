use Rattle.std.proofs.Common.{◌≡◌}
use Rattle.ix_flatmap.specs.MapState.{map_items}
use Rattle.ix_flatmap.specs.MapCompared.{is_same_item, has_each}
use Rattle.ix_flatmap.proofs.map.eq.has_each_of.Given as goal

-- all keys are had if those that are left are
abbrev pub invariant-loop-key : goal.invariant-loop-key
invariant-loop-key g l =
    has_each (is_same_item g.K.PartialEq.eq g.V.PartialEq.eq) (map_items l.map) l.key-iterator ≡ has_each (is_same_item g.K.PartialEq.eq g.V.PartialEq.eq) (map_items l.map) l.fn.items
