-- Equality of flat maps: each key of one has an equal key in the other, with an equal value.
use Rattle.std.specs.Prelude.{Bool, ◌&&◌, List}
use Rattle.std.specs.List.{list_any, list_all}

-- the keys are equal, and the values
abbrev pub is_same_item : {K V : Type 0} → (K → K → Bool) → (V → V → Bool) → K × V → K × V → Bool
is_same_item key_eq value_eq item other = key_eq item.0 other.0 && value_eq item.1 other.1

module _ {X : Type 0} (same : X → X → Bool) where
  -- each item of the second list is the same as one of the first
  abbrev pub has_each : List X → List X → Bool
  has_each items others = list_all (λ other. list_any (λ item. same item other) items) others

  -- and the other way round
  abbrev pub has_same : List X → List X → Bool
  has_same items others = has_each items others && has_each others items
