use Rattle.std.proofs.Common.{nat_eq, ◌≡◌}
use Rattle.std.specs.Prelude.{◌&&◌}
use Rattle.std.specs.Cmp.Lexicographic.{pointwise}
use Rattle.ix_slottable.specs.SlotTableState.{entries}
use Rattle.ix_slottable.proofs.slottable.eq.MetaSlotTablePartialEq.eq.Given as goal

-- the maps are equal if what is left of them is
abbrev pub invariant-loop-key : goal.invariant-loop-key
invariant-loop-key g l =
    pointwise (λ p q. nat_eq p.0 q.0 && g.T.PartialEq.eq p.1 q.1) l.key-iterator l.others ≡ pointwise (λ p q. nat_eq p.0 q.0 && g.T.PartialEq.eq p.1 q.1) (entries l.self) (entries l.other)
