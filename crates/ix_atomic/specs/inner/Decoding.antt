-- Decoding: a value of values.
use Rattle.std.specs.Prelude.{Option, Some, None}

-- the three values, if there are all three
abbrev pub triple_of : {A B C : Type 0} → Option A → Option (B × C) → Option (A × B × C)
triple_of None rest = None
triple_of (Some first) None = None
triple_of (Some first) (Some rest) = Some (first, rest.0, rest.1)
