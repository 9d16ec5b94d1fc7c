-- The ownership and sharing of a row of places in raw memory, where its items have the type T.
use Rattle.std.specs.Prelude.{ℕ, ◌+◌, ◌*◌, ◌^◌, List, [], ◌∷◌, length, Option, Some, None}
use Rattle.std.specs.Mem.{type_size}
use base.Fraction.{full_share}
use base.Fml.{Lft, Fml, ftrue, ffalse, fsep, flt, froom}
use mir.Syntax.{Ty, ty_array}
use mir.Raw.{raw}
use denote.RattleType.{RattleType}
use denote.Memory.{lone, part_at, shared_of}
use denote.Sharing.{nothing, said, beside}
use denote.RawPtr.{Ptr, block_ptr, null_ptr}

module _ (T : RattleType) where
  -- an item, or room for one, o bytes into the block b
  abbrev pub place_owns : ℕ → ℕ → Option T.Denot → Fml
  place_owns b o (Some item) = part_at T full_share item b o
  place_owns b o None = froom (raw (lone T.mir)) b o

  -- places side by side
  abbrev pub places_own : ℕ → ℕ → List (Option T.Denot) → Fml
  places_own b o [] = ftrue
  places_own b o (place ∷ places) = fsep (place_owns b o place) (places_own b (o + type_size T) places)

  -- a `&` to the item of a place
  abbrev pub place_shares : ℕ → ℕ → Option T.Denot → Lft → Fml
  place_shares b o (Some item) = shared_of T item b o
  place_shares b o None = nothing

  abbrev pub places_share : ℕ → ℕ → List (Option T.Denot) → Lft → Fml
  places_share b o [] = nothing
  places_share b o (place ∷ places) = beside (place_shares b o place) (places_share b (o + type_size T) places)

  -- the places have no more bytes than the greatest `isize`
  abbrev pub fits_isize : List (Option T.Denot) → Fml
  fits_isize places = flt (length places * type_size T) (2 ^ 63)

  -- the places from p on
  abbrev pub row_owns : Ptr → List (Option T.Denot) → Fml
  row_owns (block_ptr b o) places = fsep (fits_isize places) (places_own b o places)
  row_owns null_ptr places = ffalse

  abbrev pub row_shares : Ptr → List (Option T.Denot) → Lft → Fml
  row_shares (block_ptr b o) places = beside (said (fits_isize places)) (places_share b o places)
  row_shares null_ptr places = said ffalse

  -- the allocator's token for a block of len places at p
  abbrev pub grant_owns : (Ty → Ptr → Fml) → Ptr → ℕ → Fml
  grant_owns token p len = token (raw (ty_array (lone T.mir) len)) p
