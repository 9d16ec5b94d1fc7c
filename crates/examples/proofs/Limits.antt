-- One more limit.
use Rattle.std.proofs.Common.{ℕ, ◌+◌, ◌-◌, ◌≤◌, List, [], ◌∷◌, ◌++◌, length, arith, le_refl}
use Rattle.std.proofs.lemmas.List.Elements.{All-push}
use Rattle.std.proofs.lemmas.List.Sorted.{IsNonDecreasingBy-push}
use Rattle.examples.specs.Limits.{GrewTo}

pub GrewTo-push : (limits : List ℕ) (last value : ℕ) → GrewTo last limits → last ≤ value → GrewTo value (limits ++ value ∷ [])
GrewTo-push limits last value grew up = (
  IsNonDecreasingBy-push (λ limit. limit) limits value grew.0 (λ d some_limit. let below = grew.1 (length limits - 1) d (omega (arith, some_limit)) in omega (arith, below, up)),
  All-push (λ limit. limit ≤ value) limits value (λ k d inside. let below = grew.1 k d inside in omega (arith, below, up)) (le_refl value),
)
