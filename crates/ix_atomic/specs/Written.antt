-- The values that were written with a seat of a cell.
use Rattle.std.specs.Prelude.{◌≡◌, ℕ, List, ◌∷◌, map, Some, slice_get}
use Rattle.ix_atomic.specs.Writers.{Writer}

-- these values stand at these places of the history, in order
abbrev pub StandAt : {T : Type 0} → List T → List ℕ → List T → Type 0
StandAt history places values = map (slice_get history) places ≡ map Some values

-- these values were written with the seat, in order
abbrev pub HasWritten : {T : Type 0} → Writer T → List T → Type 0
HasWritten writer values = StandAt writer.known writer.places values

-- the same after the opening value
abbrev pub HasSet : {T : Type 0} → Writer T → List T → Type 0
HasSet writer values = StandAt writer.known (0 ∷ writer.places) values
