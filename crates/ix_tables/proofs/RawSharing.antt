-- A `&` to a row of places is a `&` to each of its items. Assumes `Logic`.
use Rattle.std.specs.Prelude.{ℕ, ◌+◌, List, [], ◌∷◌, Option, Some, None}
use Rattle.std.specs.Mem.{type_size}
use seplogic.Ra.Ura.{Ura}
use base.Fml.{Lft, Incl, ftrue, ffalse}
use types.Logic.{Logic}
use denote.RattleType.{RattleType, RowLaws}
use denote.Param.Laws.{Laws}
use denote.RawPtr.{Ptr, block_ptr, null_ptr}
use denote.Sharing.{ShrLaws, said}
use denote.SharingLaws.{nothing_shr_laws, said_shr_laws, beside_shr_laws}
use denote.Shares.{Shares-less}
use denote.Struct.Lending.{Lends, Lends-both, Lends-nothing, Lends-said, Lends-false}
use Rattle.ix_tables.specs.inner.RawMemory.{place_owns, places_own, place_shares, places_share, fits_isize, row_owns, row_shares}

-- what a `&` holds can be copied, and used at a shorter lifetime
module _ (T : RattleType) (L : RowLaws T) where
  place_copied : (b o : ℕ) (place : Option T.Denot) → ShrLaws (place_shares T b o place)
  place_copied b o None = nothing_shr_laws
  place_copied b o (Some item) = L item b o

  places_copied : (b o : ℕ) (places : List (Option T.Denot)) → ShrLaws (places_share T b o places)
  places_copied b o [] = nothing_shr_laws
  places_copied b o (place ∷ places) = beside_shr_laws _ _ (place_copied b o place) (places_copied b (o + type_size T) places)

  pub row_copied : (p : Ptr) (places : List (Option T.Denot)) → ShrLaws (row_shares T p places)
  row_copied null_ptr places = said_shr_laws ffalse tt
  row_copied (block_ptr b o) places = beside_shr_laws _ _ (said_shr_laws (fits_isize T places) tt) (places_copied b o places)

-- it is made of a borrow for a lifetime l that the items outlive
module _ {M : Type 1} {𝓤 : Ura M} (𝓛 : Logic 𝓤) (l : Lft) (T : RattleType) (L : Laws T) (outlives : Incl l T.lives) where
  place_lent : (b o : ℕ) (place : Option T.Denot) → Lends 𝓛 (place_owns T b o place) (place_shares T b o place) l
  place_lent b o None = Lends-nothing 𝓛 (place_owns T b o None) l
  place_lent b o (Some item) = λ κ ts. Shares-less 𝓛 T T.lives l outlives (L.shares 𝓛) item κ ts b o

  places_lent : (b o : ℕ) (places : List (Option T.Denot)) → Lends 𝓛 (places_own T b o places) (places_share T b o places) l
  places_lent b o [] = Lends-nothing 𝓛 ftrue l
  places_lent b o (place ∷ places) =
      let next = o + type_size T in
      Lends-both 𝓛 (place_owns T b o place) (places_own T b next places) (place_shares T b o place) (places_share T b next places) l
      (place_lent b o place) (places_lent b next places)

  pub row_lent : (p : Ptr) (places : List (Option T.Denot)) → Lends 𝓛 (row_owns T p places) (row_shares T p places) l
  row_lent null_ptr places = Lends-false 𝓛 (said ffalse) l
  row_lent (block_ptr b o) places =
      let fits = fits_isize T places in
      Lends-both 𝓛 fits (places_own T b o places) (said fits) (places_share T b o places) l (Lends-said 𝓛 fits tt l) (places_lent b o places)
