-- What the proofs by hand of `front_mut` and `place_mut` share. Assumes `Logic`.
--     args, R, S, Slice     the type arguments, a place, the row, and a reference to some of its places
--     ends                  what the row ends as
--     lent_on               the same, where the places that were lent are lent on
--     stayed                what either function still has of its parameters at the return:  nothing
--     AllLent               what a call of `all_mut` gives
--     states                a fact that is known goes into the context
use Rattle.std.proofs.Common.{◌≡◌, ℕ, List, [], ◌∷◌, length, MutBor, refl}
use Rattle.std.specs.List.{refill}
use seplogic.Ra.Ura.{Ura}
use mir.Syntax.{Args, a_type, a_number, named}
use mir.Val.{Val}
use base.Logic.{emp, ent, sep}
use base.Fml.{Fml, Lft, GName, ftrue, flft}
use contract.Lifetimes.{Lfts, Shares}
use contract.Monad.{fact, fact_i}
use types.Logic.{Logic, sem}
use types.Kit.{Item, Goal, Step, ‵, raw, ◌⊛◌, later, some, use0, use2, ◌$◌, ◌∵◌, !, qed, rewrite, done}
use denote.Array.{Array}
use denote.Builtin.{usize, RefMutOf, unit}
use denote.Exit.{yes, no}
use denote.Follow.{follows, follows_then}
use denote.Param.{param, layouts, number}
use denote.RattleType.{RattleType}
use denote.Signature.{plain}
use denote.Slice.{MutSlice}
use denote.Triple.Clauses.{Lasts, lasts}
use denote.Triple.Walked.{Stays, stay_dropped}
use Rattle.arrayvec.specs.contracts.array_vec.ArrayVec.{the_row}
use Rattle.ix_tables.proofs.Refilling.{refill-same_length}
use Rattle.ix_tables.specs.contracts.cells.full_array.all_mut as all_mut

module _ (X : RattleType) (cap : ℕ) where
  abbrev pub args : Args
  args = layouts (a_type ∷ a_number ∷ []) (X, (number cap, tt))

  abbrev pub R : RattleType
  R = param 0 X

  abbrev pub S : RattleType
  S = the_row R (param 1 (number cap)) unit

  abbrev pub Slice : Lft → RattleType
  Slice κ = MutSlice (named 0) κ R

  -- the row of the name γ ends with the places that F makes of the last value under the name δ
  abbrev pub ends : (T : RattleType) → (T.Denot → List X.Denot) → GName → GName → Fml
  ends T F γ δ = follows S T γ δ (λ w. record { items = F w })

  abbrev pub stayed : Stays {n = 3} (RefMutOf (0 ∷ []) tt (plain (λ _. S)) (λ _. tt) ∷ plain (λ _. usize) ∷ []) (no, (yes, tt))
  stayed = (stay_dropped (RefMutOf (0 ∷ []) tt (plain (λ _. S)) (λ _. tt)) no, (stay_dropped (plain (λ _. usize)) yes, tt))

  module _ {M : Type 1} {𝓤 : Ura M} (𝓛 : Logic 𝓤) where
    -- all places, which were ys, are lent under the name γ', and as F makes them of what is lent on under the name δ
    pub lent_on : (T : RattleType) (F : T.Denot → List X.Denot) (γ γ' δ : GName) (ys : List X.Denot) → ((w : T.Denot) → length (F w) ≡ length ys)
        → ent 𝓤 (sep 𝓤 (sem 𝓛 (ends (Array R 0) (refill (length ys) ys) γ γ')) (sem 𝓛 (follows (Array R 0) T γ' δ F))) (sem 𝓛 (ends T F γ δ))
    lent_on T F γ γ' δ ys same =
        let again : ◌≡◌ {A = T.Denot → List X.Denot} (λ w. refill (length ys) ys (F w)) F = λ i w. refill-same_length ys (F w) (same w) i in
        qed 𝓛 (‵ (ends (Array R 0) (refill (length ys) ys) γ γ') ∷ ‵ (follows (Array R 0) T γ' δ F) ∷ []) ∵
        use2 𝓛 (‵ (ends T (λ w. refill (length ys) ys (F w)) γ δ))
        (follows_then 𝓛 S (Array R 0) T (λ w. record { items = refill (length ys) ys w }) F γ γ' δ) $
        rewrite ! 0 (λ (G : T.Denot → List X.Denot). ‵ (ends T G γ δ)) again refl $ done !

  -- what `all_mut` gives of the row r, at the machine value v:  a reference to all places, the tokens, and what the row ends as
  module _ {M : Type 1} {𝓤 : Ura M} (𝓛 : Logic 𝓤) (κs : Lfts 3) (qs : Shares 3) (r : MutBor S.Denot) where
    abbrev pub AllLent : Val → Item 𝓤
    AllLent v =
        later (some (λ (all : MutBor (List X.Denot)).
        ((‵ (flft κs.0 qs.0) ⊛ ‵ (flft κs.1.0 qs.1.0) ⊛ ‵ (flft κs.1.1.0 qs.1.1.0) ⊛ ‵ ftrue) ⊛ ‵ ((Slice κs.0).own_val all (v ∷ [])))
        ⊛ some (λ (ws : Lasts (all_mut.ended X (number cap)) κs (r, tt)). ‵ (lasts (all_mut.ended X (number cap)) κs (r, tt) ws)
        ⊛ ‵ (ends (Array R 0) (refill (length r.now.items) r.now.items) r.ghost_name all.ghost_name)
        ⊛ raw (fact 𝓤 (all.now ≡ r.now.items)))))

module _ {M : Type 1} {𝓤 : Ura M} {𝓛 : Logic 𝓤} {K : Type 0} {Γ : List (Item 𝓤)} where
  open 𝓛 use {H}

  pub states : K → {G : Goal 𝓤 H} {φ : Type 0} → φ → Step K 𝓛 (raw (fact 𝓤 φ) ∷ Γ) G Γ G
  states t {φ = φ} x = use0 𝓛 (raw (fact 𝓤 φ)) (fact_i 𝓤 φ (emp 𝓤) x)
