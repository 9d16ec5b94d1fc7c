-- The first places of a row that is lent are lent on, and the row follows them. Assumes `Logic`.
--     Lent, lent      the reference to the first n places under a new name, the token, and what the row ends as
--     lends           they come of the reference to the whole row, and the token
use Rattle.std.proofs.Common.{◌≡◌, ℕ, ◌≤◌, List, [], ◌∷◌, ◌++◌, length, take, refl, sym, ap, subst, ◌∙◌, arith}
use Rattle.std.specs.List.{refill, length_refill}
use native.Mathlib.Nat.{mul-le-mul_right}
use lib.ListN.{drop as behind, take-append-drop, length-append, length-drop}
use lib.Seq.{take_all}
use seplogic.Ra.Ura.{Ura}
use mir.Syntax.{named}
use base.Logic.{SProp, ent, sep, ex}
use base.Fml.{Fml, Lft, GName, Share, flft, fobs, fbor}
use base.Stored.{coded_list}
use types.Logic.{Logic, sem}
use types.Kit.{Item, ‵, ◌⊛◌, later, some, ◌$◌, ◌∵◌, !, qed, move, drop, split, split3, use1, use2, fsplit, fsplit3, fjoin, feq_i, feq_l, rewrite, group, updating, await, pick, now, show, done}
use types.SemTy.{SemTy, cells, Arr, Body}
use types.Mut.{open_ref}
use types.Follow.{takes_part}
use borrow.Table.Elements.{at, cut_app, join_app, length-take-le}
use denote.Array.{Array}
use denote.Follow.{follows}
use denote.FollowSlice.{heres_id, slice_of}
use denote.Memory.{mem}
use denote.RattleType.{RattleType}
use denote.Slice.{MutSlice, Room, slice_val}

-- n places ws in front of the others of xs are xs refilled with ws
append-refill : {X : Type 0} (n : ℕ) (xs ws : List X) → n ≤ length xs → length ws ≡ n → ws ++ behind n xs ≡ refill (length xs) xs ws
append-refill n xs ws le same =
    let all = length-append ws (behind n xs) in
    let others = length-drop n xs in
    sym (take_all (length xs) (ws ++ behind n xs) (omega arith)) ∙ ap (λ (k : ℕ). take (length xs) (ws ++ behind k xs)) (sym same)

-- a row xs at (b, o), which is lent for κ under the name γ, and the number n of places that are lent on
module _ {M : Type 1} {𝓤 : Ura M} (𝓛 : Logic 𝓤) (R : RattleType) (κ : Lft) (q : Share) (b o : ℕ) (γ : GName) (xs : List R.Denot) (n : ℕ) (le : n ≤ length xs) where
  open 𝓛 use {H, A}

  abbrev front : List R.Denot
  front = take n xs

  front_long : length front ≡ n
  front_long = length-take-le n xs le

  front_fits : Room R (length xs) → Room R (length front)
  front_fits fits = let bytes = mul-le-mul_right (mem R).size le in subst (Room R) (sym front_long) (omega arith, omega arith)

  -- the row, where ws was left in its first places
  abbrev after : List R.Denot → List R.Denot
  after ws = refill (length xs) xs ws

  -- memory with as many places as ys has, which is what the borrow of a slice holds
  abbrev as_many : List R.Denot → SemTy
  as_many ys = Arr (mem R) (length ys)

  -- the places ys in memory, from the offset p
  abbrev laid : List R.Denot → ℕ → Fml
  laid ys p = cells (mem R) ys b p

  -- the places behind the first n, in memory behind k places
  abbrev others : ℕ → Fml
  others k = laid (behind n xs) (at o (mem R).size k)

  -- the reference to the places ys under the name δ, whose machine value has the count k
  abbrev slice : List R.Denot → GName → ℕ → Fml
  slice ys δ k = (MutSlice (named 0) κ R).own_val (record { ref_ptr = (b, o); ghost_name = δ; now = ys }) (slice_val (b, o) k ∷ [])

  -- what the row ends as, by the name δ of the places that were lent
  abbrev ends : GName → Fml
  ends δ = follows (Array R 0) (Array R 0) γ δ after

  -- what the loan gives, under the name δ
  abbrev pub Lent : GName → SProp 𝓤
  Lent δ = sep 𝓤 (sem 𝓛 (slice front δ n)) (sep 𝓤 (A.lft κ q) (sem 𝓛 (ends δ)))

  -- the same, as an entry of a walk
  abbrev pub lent : GName → Item 𝓤
  lent δ = ‵ (slice front δ n) ⊛ ‵ (flft κ q) ⊛ ‵ (ends δ)

  -- with any places in front, what was kept back makes a row of the same length again
  put_back : (ws : List R.Denot) → ent 𝓤 (sep 𝓤 (sem 𝓛 ((as_many front).own_at ws b o)) (sem 𝓛 (others (length front)))) (sem 𝓛 ((as_many xs).own_at (after ws) b o))
  put_back ws =
      qed 𝓛 (‵ ((as_many front).own_at ws b o) ∷ ‵ (others (length front)) ∷ []) ∵ fsplit ! $ feq_l ! (λ same.
      rewrite ! 1 (λ (k : ℕ). ‵ (others k)) (sym same) refl $
      use2 𝓛 (‵ (laid (ws ++ behind n xs) o)) (join_app 𝓛 (mem R) ws (behind n xs) b o) $
      rewrite ! 0 (λ (ys : List R.Denot). ‵ (laid ys o)) (append-refill n xs ws le (same ∙ front_long)) refl $
      feq_i ! ℕ (length (after ws)) (length xs) (sym (length_refill (length xs) xs ws refl)) $ fjoin ! $ done !)

  pub lends : Room R (length xs) → ent 𝓤 (sep 𝓤 (sem 𝓛 (slice xs γ (length xs))) (A.lft κ q)) (H.⇛ (ex 𝓤 Lent))
  lends fits =
      qed 𝓛 (‵ (slice xs γ (length xs)) ∷ ‵ (flft κ q) ∷ []) ∵ updating ! $ fsplit3 ! $ drop ! $
      rewrite ! 0 (λ (ys : List R.Denot). ‵ (fobs γ ((coded_list R.coded).code ys))) (heres_id R xs) refl $
      open_ref ! tt (as_many xs) {b = b} {o = o} $ fsplit ! $ drop ! $
      rewrite ! 0 (λ (ys : List R.Denot). ‵ (laid ys o)) (sym (take-append-drop n xs)) refl $
      use1 𝓛 (‵ (laid front o) ⊛ ‵ (others (length front))) (cut_app 𝓛 (mem R) front (behind n xs) b o) $ split ! $
      feq_i ! ℕ (length front) (length front) refl $ fjoin ! $
      -- [the first places; the others; the open borrow; the two halves of its name]
      move ! (2 ∷ 3 ∷ 4 ∷ 0 ∷ 1 ∷ []) $ group ! 5 $
      use1 𝓛 (later (some (λ (δ : GName). ‵ (fobs δ ((coded_list R.coded).code front)) ⊛ ‵ (fbor κ (Body (as_many front) b o δ)) ⊛ ‵ (flft κ q) ⊛ ‵ (ends δ))))
      (takes_part 𝓛 (as_many xs) (as_many front) after κ q b o b o γ (sem 𝓛 (others (length front))) put_back ((coded_list R.coded).code xs) ((coded_list R.coded).code xs) front) $
      await ! tt $ pick ! (λ δ. split3 ! $
      use2 𝓛 (‵ (slice front δ (length front))) (slice_of 𝓛 R (named 0) κ b o δ front (front_fits fits)) $
      rewrite ! 0 (λ (k : ℕ). ‵ (slice front δ k)) front_long refl $ now ! $ show ! Lent δ $ done !)
