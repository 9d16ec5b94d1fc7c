-- Properties of each step of a list.
use Rattle.std.specs.Prelude.{◌≡◌, List, ◌∷◌, ◌++◌}

-- the relation holds of each step of the list and the steps before it
abbrev pub EachAfter : {S : Type 0} → (List S → S → Type 0) → List S → Type 0
EachAfter {S} holds steps = (before after : List S) (step : S) → steps ≡ before ++ step ∷ after → holds before step
