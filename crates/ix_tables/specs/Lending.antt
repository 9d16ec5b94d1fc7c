-- A table after a `&mut` into it ends: as it was, with the last value behind the reference r.
use Rattle.std.specs.Prelude.{ℕ, List, Option, Some, slice_set}
use Rattle.std.specs.Borrow.{Fml, RattleType, MutBor, Lends}
use Rattle.std.specs.declared.alloc.Allocator.{Ghosts}
use Rattle.ix_tables.specs.contracts.cells.counted.Counted as counted
use Rattle.ix_tables.specs.contracts.cells.raw_slots.RawSlots as raw_slots

-- at place i
abbrev pub table_lends : (S T : RattleType) → (S.Denot → ℕ → T.Denot → S.Denot) → MutBor S.Denot → ℕ → MutBor T.Denot → Fml
table_lends S T with_item s i r = Lends S T s r (with_item s.now i)

-- at place i of the table
abbrev pub counted_lends : (S T : RattleType) → (S.Denot → ℕ → T.Denot → S.Denot) → MutBor S.Denot → ℕ → MutBor T.Denot → Fml
counted_lends S T with_item s i r = Lends (counted.the_row S) T s r (with_item s.now i)

-- at place i of the row in memory of an A
abbrev pub raw_slots_lends : (T A : RattleType) → Ghosts A.Denot → MutBor (List (Option T.Denot)) → ℕ → MutBor T.Denot → Fml
raw_slots_lends T A g s i r = Lends (raw_slots.the_row T A g) T s r (λ w. slice_set s.now i (Some w))
