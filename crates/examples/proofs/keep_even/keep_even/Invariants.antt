use Rattle.std.proofs.Common.{◌≡◌, ◌%◌, ◌-◌, ◌≤◌, length, take}
use Rattle.std.specs.Prelude.{All}
use Rattle.examples.proofs.keep_even.keep_even.Given as goal

-- the first i numbers are even
abbrev pub invariant-loop-i : goal.invariant-loop-i
invariant-loop-i g l =
    (l.i ≤ length (g.V.Vector.bounded l.vector).items)
    × All (λ number. number % 2 ≡ 0) (take l.i (g.V.Vector.bounded l.vector).items)

-- each turn passes a number or removes one
abbrev pub decreases-loop-i : goal.decreases-loop-i
decreases-loop-i g l = length (g.V.Vector.bounded l.vector).items - l.i
