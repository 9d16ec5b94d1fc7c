-- An iterator that drains a map, and the properties that its steps keep. It has the items that are still to come, the reference to
-- the map, and the state of the map once the iterator is dropped.
use Rattle.std.specs.Prelude.{◌≡◌, List, Option}
use Rattle.std.specs.Borrow.{GName}
use Rattle.std.specs.Iterator.{Yields, YieldsFirst}

module _ {D X S : Type 0} (items : D → List X) (lender : D → GName) (left : D → S) where
  -- both borrow the same map, and leave the same
  abbrev pub DrainingKeeps : D → D → Type 0
  DrainingKeeps old new = (lender new ≡ lender old) × (left new ≡ left old)

  -- `next` took the first item, if there was one
  abbrev pub DrainingSteps : D → Option X → D → Type 0
  DrainingSteps old item new = YieldsFirst items old item new × DrainingKeeps old new

  -- wherever calls of `next` lead, the same map is borrowed
  abbrev pub DrainingKeepsAlong : D → Type 0
  DrainingKeepsAlong drain = (taken : List X) (later : D) → Yields DrainingSteps drain taken later → DrainingKeeps drain later
