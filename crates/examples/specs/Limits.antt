-- Limits that only grow.
use Rattle.std.specs.Prelude.{ℕ, ◌≤◌, List, All}
use Rattle.std.specs.List.Sorted.{IsNonDecreasing}

-- no limit is less than one before it, and the greatest is at most this one
abbrev pub GrewTo : ℕ → List ℕ → Type 0
GrewTo last limits = IsNonDecreasing limits × All (λ limit. limit ≤ last) limits
