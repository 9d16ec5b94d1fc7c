-- The parts of a row of places in raw memory.
use Rattle.std.specs.Prelude.{◌≡◌, ℕ, Bool, List, map, length, replicate, Option, Some, None, is_some}
use denote.RawPtr.{Ptr}
use Rattle.ix_tables.specs.declared.cells.raw_row.RowPtr.{RowPtr}
use Rattle.ix_tables.specs.declared.cells.raw_row.RowOwner.{RowOwner}
use Rattle.ix_tables.specs.declared.cells.raw_row.RowGrant.{RowGrant}

module _ {T : Type 0} where
  -- the row with other places
  abbrev pub with_places : RowOwner T → List (Option T) → RowOwner T
  with_places row places = record { mark = row.mark; start = row.start; places = places; bytes = row.bytes }

  -- a row of len empty places from p on
  pub record IsVacantRow (row : RowOwner T) (p : Ptr) (len : ℕ) : Type 0 where
    pub start : row.start ≡ p
    pub places : row.places ≡ replicate len None

module _ {T A : Type 0} where
  -- the right to deallocate a block of n places at p from a
  pub record IsGrantFor (grant : RowGrant T A) (p : Ptr) (n : ℕ) (a : A) : Type 0 where
    pub start : grant.start ≡ p
    pub len : grant.len ≡ n
    pub alloc : grant.alloc ≡ a

  -- a grant is for the block of the row; where there is none, no bytes were allocated
  abbrev pub IsGrantOf : Option (RowGrant T A) → RowOwner T → A → Type 0
  IsGrantOf (Some grant) row alloc = IsGrantFor grant row.start (length row.places) alloc
  IsGrantOf None row alloc = row.bytes ≡ 0

  -- the parts of one row: a place is marked exactly if it holds an item
  pub record AreParts (ptr : RowPtr T) (row : RowOwner T) (grant : Option (RowGrant T A)) (held : List Bool) (alloc : A) : Type 0 where
    pub start : ptr.start ≡ row.start
    pub marks : held ≡ map is_some row.places
    pub block : IsGrantOf grant row alloc
