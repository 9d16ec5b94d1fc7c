-- A row in raw memory after a `&mut` to one of its items ends.
use Rattle.std.specs.Prelude.{ℕ, slice_set, Some}
use Rattle.std.specs.Borrow.{Fml, RattleType, MutBor, Lends}
use Rattle.ix_tables.specs.inner.RawRows.{with_places}
use Rattle.ix_tables.specs.declared.cells.raw_row.RowOwner.{RowOwner}
use Rattle.ix_tables.specs.contracts.cells.raw_row.RowOwner as owner

-- as it was, with the last value behind the reference r at place i
abbrev pub row_lends : (T : RattleType) → MutBor (RowOwner T.Denot) → ℕ → MutBor T.Denot → Fml
row_lends T row i r = Lends (owner.the_row T) T row r (λ w. with_places row.now (slice_set row.now.places i (Some w)))
