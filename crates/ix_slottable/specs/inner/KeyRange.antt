-- A range of keys that an iterator visits from both ends. No clause of a public method cites this.
use Rattle.std.specs.Prelude.{◌≡◌, ℕ, ◌≤◌, List, length}

-- the first key of the range, the one after its last, and the number of the items in it
pub record IsKeyRange {X : Type 0} (capacity key end left : ℕ) (items : List X) : Type 0 where
  pub rises : key ≤ end
  pub within : end ≤ capacity
  pub counted : left ≡ length items
