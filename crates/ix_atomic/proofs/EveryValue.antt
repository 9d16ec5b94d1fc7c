-- Laws on the history of a cell whose seats are all merged back, for crates that use cells. Each place but the first is the seat's then.
use Rattle.std.proofs.Common.{◌≡◌, ℕ, zero, suc, ◌/◌, List, length, arith, Some}
use Rattle.std.specs.Prelude.{slice_get}
use Rattle.std.specs.List.{Contains}
use Rattle.std.proofs.lemmas.Option.{slice_get_within}
use Rattle.ix_atomic.specs.History.{history_value}
use Rattle.ix_atomic.specs.Writers.{HoldsEach}

-- what holds of the opening value and of each value that was written with the seat, holds of each value of the history
pub every_value : {T : Type 0} (Holds : T → Type 0) (history : List T) (places : List ℕ) → HoldsEach (length history) places
    → ((value : T) → slice_get history 0 ≡ Some value → Holds value)
    → ((place : ℕ) (value : T) → Contains places place → slice_get history place ≡ Some value → Holds value)
    → (version : ℕ) (value : T) → history_value history version ≡ Some value → Holds value
every_value {T} Holds history places each opening written version value = at_place (version / 2)
  where
    at_place : (place : ℕ) → slice_get history place ≡ Some value → Holds value
    at_place zero at = opening value at
    at_place (suc place) at = written (suc place) value (each (suc place) (omega arith) (slice_get_within history (suc place) value at)) at
