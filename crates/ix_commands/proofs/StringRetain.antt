-- Lemmas on the text that `retain` leaves.
use Rattle.std.proofs.Common.{◌≡◌, List, refl, sym}
use Rattle.ix_tables.specs.Bounded.{Bounded, with_items}

-- a bounded list is its items and its capacity
pub is-with_items : {X : Type 0} (new old : Bounded X) (items : List X) → new.items ≡ items → new.capacity ≡ old.capacity → new ≡ with_items old items
is-with_items new old items is same = rw (sym is, sym same) refl
