use Rattle.std.proofs.Common.{nat_eq, ◌≡◌}
use Rattle.std.specs.Prelude.{◌&&◌}
use Rattle.std.specs.Cmp.Lexicographic.{pointwise}
use Rattle.ix_slotmap.specs.Generations.{slot_map_entries}
use Rattle.ix_slotmap.proofs.slotmap.eq.MetaSlotMapMaybeMovedPartialEq.eq.Given as goal

-- the maps are equal if what is left of them is
abbrev pub invariant-loop-key : goal.invariant-loop-key
invariant-loop-key g l =
    pointwise (λ p q. (nat_eq p.0.index q.0.index && nat_eq p.0.generation q.0.generation) && g.T.PartialEq.eq p.1 q.1) l.key-iterator l.others
    ≡ pointwise (λ p q. (nat_eq p.0.index q.0.index && nat_eq p.0.generation q.0.generation) && g.T.PartialEq.eq p.1 q.1) (slot_map_entries l.self) (slot_map_entries l.other)
