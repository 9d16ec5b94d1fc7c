-- What the walks over raw rows share. Assumes `Logic`.
--     offset_fits                     the offset of a place fits a `usize`
--     place_out, place_in, place_seen  one place is taken out of a row, put back, seen through a `&`
--     item_out, item_in               an item is the machine value in its place, and what that value owns
--     room_in, room_out, bare_places  a row of empty places is room for an array; it is had for nothing where items have no bytes
--     mark_made, start_made, three_made  the parts of a row are made, and a tuple of three
use Rattle.std.proofs.Common.{◌≡◌, ℕ, zero, suc, ◌+◌, ◌*◌, ◌^◌, ◌<◌, List, [], ◌∷◌, length, replicate, get_or, set, Option}
use Rattle.std.proofs.Common.{None, refl, sym, arith}
use native.Mathlib.Nat.{zero-mul, suc-mul}
use seplogic.Ra.Ura.{Ura}
use base.Fraction.{full_share}
use mir.Syntax.{Ty, Args, ty_array, a_type}
use mir.Val.{Val, vstruct, vcons, vnil}
use mir.Raw.{raw as bare}
use base.Logic.{ent, sep, emp, ex, guard, wand}
use prog.Memory.{size, align}
use prog.Align.{dv_self}
use base.Fml.{Lft, Fml, ftrue, fsep, fat, froom}
use types.Logic.{Logic, sem}
use types.Kit.{‵, raw, some, ◌⊛◌, ◌$◌, ◌∵◌, !, qed, by, move, keep, use0, use1, use2, split, pick, check, show, frame, rewrite}
use types.Kit.{fsplit, fjoin, fpack, feq_i, done}
use denote.RattleType.{RattleType, Valss}
use denote.Laws.{Is, shows}
use denote.Memory.{part_at}
use denote.Param.{param, layout, layouts}
use denote.Param.Laws.{Laws, param_laws}
use denote.RawPtr.{Ptr, ptr_val}
use denote.Shadow.{makes_shadow}
use denote.Steps.{nothing, peeks}
use denote.Struct.Declared as Declared
use denote.Struct.Owning.{shape}
use denote.Struct.Struct.{Struct, within}
use denote.Struct.Tuple.{Tuple, tuple_type}
use borrow.Table.OneValue.{part_in, part_out}
use Rattle.std.specs.Mem.{type_size}
use Rattle.core.proofs.mem.Param.{El, Good}
use Rattle.core.proofs.ptr.Rows.{times_below, one_below}
use Rattle.std_alloc.proofs.RawLayout.{as_raw, as_written}
use Rattle.std_alloc.proofs.RcSteps.{word}
use Rattle.ix_tables.specs.inner.RawMemory.{place_owns, places_own, place_shares, places_share}
use Rattle.ix_tables.specs.contracts.cells.raw_row.RowOwner as owner
use Rattle.ix_tables.specs.contracts.cells.raw_row.RowPtr as start

-- the offset of one of n places of s bytes, and the bytes of one, fit a `usize`
pub offset_fits : (i n s : ℕ) → i < n → n * s < 2 ^ 63 → (i * s < 2 ^ 64) × (s < 2 ^ 64)
offset_fits i n s lt small = (omega (arith, times_below i n s (2 ^ 63) (omega arith) small), omega (arith, one_below n s (2 ^ 63) (omega arith) small))

-- the machine value of an owner or a grant: no bytes
abbrev pub bytes_none : Val
bytes_none = vstruct (vcons (vstruct vnil) vnil)

abbrev pub three_val : Val → Val → Val → Val
three_val u v w = vstruct (vcons u (vcons v (vcons w vnil)))

pub three_made : {M : Type 1} {𝓤 : Ura M} (𝓛 : Logic 𝓤) (A B C : RattleType) (x : A.Denot) (y : B.Denot) (z : C.Denot) (u v w : Val)
    → ent 𝓤 (sep 𝓤 (sem 𝓛 (A.own_val x (u ∷ []))) (sep 𝓤 (sem 𝓛 (B.own_val y (v ∷ []))) (sem 𝓛 (C.own_val z (w ∷ [])))))
    (sem 𝓛 ((Tuple (A ∷ B ∷ C ∷ [])).own_val (x, y, z) (three_val u v w ∷ [])))
three_made 𝓛 A B C x y z u v w =
    qed 𝓛 (‵ (A.own_val x (u ∷ [])) ∷ ‵ (B.own_val y (v ∷ [])) ∷ ‵ (C.own_val z (w ∷ [])) ∷ []) ∵
    nothing ! $ move ! (3 ∷ 0 ∷ []) $ fjoin ! $ move ! (2 ∷ 0 ∷ []) $ fjoin ! $ move ! (1 ∷ 0 ∷ []) $ fjoin ! $
    feq_i ! (List Val) (three_val u v w ∷ []) (three_val u v w ∷ []) refl $ fjoin ! $
    fpack ! (Valss (A ∷ B ∷ C ∷ [])) (within (Declared.shape (tuple_type (A ∷ B ∷ C ∷ []))) (x, (y, (z, tt))) (three_val u v w ∷ []))
    (u ∷ [], (v ∷ [], (w ∷ [], tt))) $ done !

module _ (T : RattleType) where
  -- the type parameter as code knows it
  abbrev pub P : RattleType
  P = param 0 T

  abbrev pub τ : Ty
  τ = layout T

  abbrev pub inst : Args
  inst = layouts (a_type ∷ []) (T, tt)

  abbrev pub s : ℕ
  s = type_size P

  abbrev pub Place : Type 0
  Place = Option T.Denot

  abbrev pub Owner : RattleType
  Owner = owner.the_row P

  abbrev pub Start : RattleType
  Start = start.the_row P

  -- the field of an owner, of no bytes
  abbrev pub Mark : RattleType
  Mark = Struct (shape (owner.the_type P))

  pub mark_made : {M : Type 1} {𝓤 : Ura M} (𝓛 : Logic 𝓤) → ent 𝓤 (emp 𝓤) (sem 𝓛 (Mark.own_val (tt, tt) (bytes_none ∷ [])))
  mark_made 𝓛 = makes_shadow 𝓛 (Mark.own_val (tt, tt) (bytes_none ∷ [])) (λ _. (tt, ((λ _. (tt, tt)), tt)))
      ((vstruct vnil ∷ [], tt), (refl, ((tt, (refl, tt)), tt)))

  abbrev pub E : Laws T → El
  E L = record { row = T; laws = L }

  pub start_made : {M : Type 1} {𝓤 : Ura M} (𝓛 : Logic 𝓤) (p : Ptr) → ent 𝓤 (emp 𝓤) (sem 𝓛 (Start.own_val (record { start = p }) (word p ∷ [])))
  start_made 𝓛 p = makes_shadow 𝓛 (Start.own_val (record { start = p }) (word p ∷ [])) (λ _. (tt, (tt, tt))) ((ptr_val p ∷ [], tt), (refl, (refl, tt)))

  module _ (L : Laws T) {M : Type 1} {𝓤 : Ura M} (𝓛 : Logic 𝓤) where
    -- an item is the machine value in its place, and what that value owns
    pub item_out : (x : T.Denot) (b o : ℕ)
        → ent 𝓤 (sem 𝓛 (part_at P full_share x b o)) (ex 𝓤 (λ (v : Val). guard 𝓤 (Good (E L) v) (sep 𝓤 (𝓛.H.at full_share τ b o v) (sem 𝓛 (T.own_val x (v ∷ []))))))
    item_out x b o = qed 𝓛 (‵ (part_at P full_share x b o) ∷ []) ∵
        use1 𝓛 (some (λ (v : Val). ‵ (fat full_share τ b o v) ⊛ ‵ (T.own_val x (v ∷ [])))) (part_out 𝓛 P refl full_share x b o) $
        pick ! (λ v. split ! $ move ! (1 ∷ []) $ peeks ! P (Is P) (shows 𝓛 P) x (v ∷ []) (λ is.
        show ! (λ (w : Val). guard 𝓤 (Good (E L) w) (sep 𝓤 (𝓛.H.at full_share τ b o w) (sem 𝓛 (T.own_val x (w ∷ []))))) v $
        check ! (((param_laws 0 T L).lawful 𝓛).typed x (v ∷ []) is).0 $ move ! (1 ∷ 0 ∷ []) $ done !))

    pub item_in : (x : T.Denot) (b o : ℕ) (v : Val)
        → ent 𝓤 (sep 𝓤 (𝓛.H.at full_share τ b o v) (sem 𝓛 (T.own_val x (v ∷ [])))) (sem 𝓛 (part_at P full_share x b o))
    item_in x b o v = part_in 𝓛 P refl full_share x b o v

  module _ {M : Type 1} {𝓤 : Ura M} (𝓛 : Logic 𝓤) (b : ℕ) where
    abbrev Row : ℕ → List Place → Fml
    Row = places_own P b

    -- what a row owns but for its place i
    abbrev pub others : ℕ → List Place → ℕ → Fml
    others o [] i = ftrue
    others o (place ∷ places) zero = Row (o + s) places
    others o (place ∷ places) (suc i) = fsep (place_owns P b o place) (others (o + s) places i)

    further : (i o : ℕ) → i * s + (o + s) ≡ suc i * s + o
    further i o = omega (arith, suc-mul i s)

    pub place_out : (o : ℕ) (places : List Place) (i : ℕ) → i < length places
        → ent 𝓤 (sem 𝓛 (Row o places)) (sep 𝓤 (sem 𝓛 (place_owns P b (i * s + o) (get_or places i None))) (sem 𝓛 (others o places i)))
    place_out o [] i lt = absurd (omega arith)
    place_out o (place ∷ places) zero lt = qed 𝓛 (‵ (Row o (place ∷ places)) ∷ []) ∵ fsplit ! $
        rewrite ! 0 (λ (at : ℕ). ‵ (place_owns P b at place)) {x = zero * s + o} (omega (arith, zero-mul s)) refl $ done !
    place_out o (place ∷ places) (suc i) lt = qed 𝓛 (‵ (Row o (place ∷ places)) ∷ []) ∵ fsplit ! $ move ! (1 ∷ []) $
        use1 𝓛 (‵ (place_owns P b (i * s + (o + s)) (get_or places i None)) ⊛ ‵ (others (o + s) places i)) (place_out (o + s) places i (omega arith)) $
        split ! $ rewrite ! 0 (λ (at : ℕ). ‵ (place_owns P b at (get_or places i None))) (further i o) refl $
        move ! (2 ∷ 1 ∷ []) $ fjoin ! $ move ! (1 ∷ []) $ done !

    pub place_in : (o : ℕ) (places : List Place) (i : ℕ) → i < length places → (place : Place)
        → ent 𝓤 (sep 𝓤 (sem 𝓛 (place_owns P b (i * s + o) place)) (sem 𝓛 (others o places i))) (sem 𝓛 (Row o (set places i place)))
    place_in o [] i lt place = absurd (omega arith)
    place_in o (old ∷ places) zero lt place = qed 𝓛 (‵ (place_owns P b (zero * s + o) place) ∷ ‵ (Row (o + s) places) ∷ []) ∵
        rewrite ! 0 (λ (at : ℕ). ‵ (place_owns P b at place)) {x = o} (omega (arith, zero-mul s)) refl $ fjoin ! $ done !
    place_in o (old ∷ places) (suc i) lt place =
        qed 𝓛 (‵ (place_owns P b (suc i * s + o) place) ∷ ‵ (fsep (place_owns P b o old) (others (o + s) places i)) ∷ []) ∵
        rewrite ! 0 (λ (at : ℕ). ‵ (place_owns P b at place)) (sym (further i o)) refl $ move ! (1 ∷ []) $ fsplit ! $
        move ! (2 ∷ 1 ∷ []) $
        use2 𝓛 (‵ (Row (o + s) (set places i place))) (place_in (o + s) places i (omega arith) place) $ move ! (1 ∷ 0 ∷ []) $
        fjoin ! $ done !

    pub place_seen : (κ : Lft) (o : ℕ) (places : List Place) (i : ℕ) → i < length places
        → ent 𝓤 (sem 𝓛 (places_share P b o places κ)) (sem 𝓛 (place_shares P b (i * s + o) (get_or places i None) κ))
    place_seen κ o [] i lt = absurd (omega arith)
    place_seen κ o (place ∷ places) zero lt = qed 𝓛 (‵ (places_share P b o (place ∷ places) κ) ∷ []) ∵ fsplit ! $
        rewrite ! 0 (λ (at : ℕ). ‵ (place_shares P b at place κ)) {x = zero * s + o} (omega (arith, zero-mul s)) refl $
        keep ! (0 ∷ []) $ done !
    place_seen κ o (place ∷ places) (suc i) lt = qed 𝓛 (‵ (places_share P b o (place ∷ places) κ) ∷ []) ∵ fsplit ! $
        keep ! (1 ∷ []) $
        use1 𝓛 (‵ (place_shares P b (i * s + (o + s)) (get_or places i None) κ)) (place_seen κ (o + s) places i (omega arith)) $
        rewrite ! 0 (λ (at : ℕ). ‵ (place_shares P b at (get_or places i None) κ)) (further i o) refl $ done !

    -- room for an array of n items is a row of n empty places
    pub room_out : (n o : ℕ) → ent 𝓤 (𝓛.H.room (ty_array τ n) b o) (sem 𝓛 (Row o (replicate n None)))
    room_out zero o = qed 𝓛 (‵ (froom (ty_array τ zero) b o) ∷ []) ∵ keep ! [] $ done !
    room_out (suc n) o = qed 𝓛 (‵ (froom (ty_array τ (suc n)) b o) ∷ []) ∵
        use1 𝓛 (‵ (froom τ b o) ⊛ ‵ (froom (ty_array τ n) b (o + s))) (𝓛.laws.room_uncons τ n b o) $ split ! $ as_raw ! τ b o $
        frame ! $ by ! (room_out n (o + s))

    pub room_in : (n o : ℕ) → ent 𝓤 (sem 𝓛 (Row o (replicate n None))) (𝓛.H.room (ty_array τ n) b o)
    room_in zero o = 𝓛.laws.room_nil τ b o
    room_in (suc n) o = qed 𝓛 (‵ (froom (bare τ) b o) ∷ ‵ (Row (o + s) (replicate n None)) ∷ []) ∵ as_written ! τ b o $
        move ! (1 ∷ []) $
        use1 𝓛 (‵ (froom (ty_array τ n) b (o + s))) (room_in n (o + s)) $ move ! (1 ∷ []) $ by ! (𝓛.laws.room_cons τ n b o)

    -- places of no bytes are had for nothing, at any address
    pub bare_places : (n o : ℕ) → n * s ≡ 0 → ent 𝓤 (emp 𝓤) (sem 𝓛 (Row o (replicate n None)))
    bare_places zero o none = qed 𝓛 [] ∵ done !
    bare_places (suc n) o none =
        let bare_size : size τ ≡ size (ty_array τ 0) = omega (arith, suc-mul n s, zero-mul s) in
        qed 𝓛 [] ∵ use0 𝓛 (‵ (froom (ty_array τ 0) b o)) (𝓛.laws.room_nil τ b o) $
        use1 𝓛 (‵ (froom τ b o) ⊛ raw (wand 𝓤 (𝓛.H.room τ b o) (𝓛.H.room (ty_array τ 0) b o))) (𝓛.laws.room_as (ty_array τ 0) τ b o bare_size (dv_self (align τ))) $
        split ! $ keep ! (0 ∷ []) $ as_raw ! τ b o $
        use0 𝓛 (‵ (Row (o + s) (replicate n None))) (bare_places n (o + s) (omega (arith, suc-mul n s))) $ move ! (1 ∷ 0 ∷ []) $
        fjoin ! $ done !
