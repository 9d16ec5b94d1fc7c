-- An item that may have been moved out, in memory. Assumes `Logic`.
--     Moved, Inside           the struct, and its field
--     item_place              the offset of the item
--     item_apart, item_back   the item is taken out of the struct, and one is put back
--     item_gone               what is left of the struct is one whose item was moved out
--     bytes_out, bytes_in     a share of a struct whose item was moved out is one of its bytes, and back
--     bytes_halves            two shares of it are cut and joined
--     moved_send, moved_sync  it goes to another thread where an item may
use Rattle.std.proofs.Common.{◌≡◌, ℕ, ◌+◌, List, [], ◌∷◌, Option, Some, None, refl, sym, ap}
use seplogic.Ra.Ura.{Ura}
use base.Fraction.{full_share}
use base.Logic.{SProp, ent, sep, ex, all, all_e, guard, wand, apply∗, via, fst∗, snd∗}
use base.Fml.{Lft, Share, Fml, ftrue, fat}
use base.Share
use contract.Conj.{conj, conj_i}
use contract.Fact.{fact_use}
use ghost.Rules.{Halves}
use mathlib.Mathlib.Data.Part.{◌∈◌}
use prog.Model.{Model}
use base.Shift.{Keyless}
use mir.Syntax.{Ty}
use mir.Val.{Val, vcons, vnil}
use types.Run.{well_typed}
use denote.Opens.{Cuts-Halves}
use prog.Memory.{align, up}
use types.Logic.{Logic, sem}
use types.Kit.{‵, raw, some, given, ◌⊛◌, ◌$◌, ◌∵◌, !, qed, by, move, drop, use1, use2, split, pick, learn, check, show, rewrite, fsplit, fjoin, fpack, done}
use denote.Laws.{Typed}
use denote.Memory.{part_at, part_of, raw_all, lone}
use denote.Param.Laws.{Laws, param_laws}
use denote.Param.Send.{IsSend, IsSync, struct_send, struct_sync, cell_keyless}
use denote.RattleType.{RattleType}
use denote.Steps.{only, nothing}
use denote.Struct.Declared as Declared
use denote.Struct.Members.{Member}
use borrow.Table.OneValue.{part_in, part_out}
use Rattle.core.proofs.cell.Inside.{round, wraps, unwraps, Good-round, Good as WellTyped}
use Rattle.core.proofs.mem.Param.{Good}
use Rattle.ix_tables.specs.contracts.cells.maybe_moved.MaybeMoved as moved
use Rattle.ix_tables.specs.contracts.cells.maybe_moved.MaybeMoved.TheInside as inside
use Rattle.ix_tables.proofs.RawSteps.{P, τ, E, item_out}

module _ (T : RattleType) where
  abbrev pub Moved : RattleType
  Moved = moved.the_row (P T)

  abbrev pub Inside : RattleType
  Inside = inside.the_row (P T)

  abbrev pub moved_type : Ty
  moved_type = lone Inside.mir

  abbrev pub item_place : ℕ → ℕ
  item_place o = o + up (align (τ T)) 0

  -- the same, where no type is stated of the bytes
  abbrev Bare : RattleType
  Bare = moved.the_written (P T)

  abbrev member : Member
  member = record { row = P T; ty = τ T }

  module _ (L : Laws T) {M : Type 1} {𝓤 : Ura M} (𝓛 : Logic 𝓤) where
    open 𝓛 use {H}

    pub moved_made : (x : T.Denot) (v : Val) → Good (E T L) v → ent 𝓤 (sem 𝓛 (T.own_val x (v ∷ []))) (sem 𝓛 (Moved.own_val (Some x) (round v ∷ [])))
    moved_made x v good = qed 𝓛 (‵ (T.own_val x (v ∷ [])) ∷ []) ∵
        use1 𝓛 (‵ (Inside.own_val (record { item = x }) (round v ∷ []))) (wraps member 𝓛 [] [] x v) $ nothing ! $
        fpack ! (Typed Moved.mir (round v ∷ [])) (λ _. ftrue) (Good-round [] (τ T) v good, tt) $ fjoin ! $ done !

    module _ (b o : ℕ) where
      -- an item at its place makes the struct whole
      abbrev Back : Val → SProp 𝓤
      Back u = wand 𝓤 (H.at full_share (τ T) b (item_place o) u) (H.at full_share moved_type b o (round u))

      pub left : SProp 𝓤
      left = all 𝓤 Back

      pub item_apart : (x : T.Denot) → ent 𝓤 (sem 𝓛 (part_at Moved full_share (Some x) b o))
          (ex 𝓤 (λ (v : Val). guard 𝓤 (Good (E T L) v) (sep 𝓤 (H.at full_share (τ T) b (item_place o) v) (sep 𝓤 (sem 𝓛 (T.own_val x (v ∷ []))) left))))
      unfolding left
      item_apart x = qed 𝓛 (‵ (part_at Moved full_share (Some x) b o) ∷ []) ∵
          use1 𝓛 (some (λ (w : Val). ‵ (fat full_share moved_type b o w) ⊛ ‵ (Moved.own_val (Some x) (w ∷ [])))) (part_out 𝓛 Moved refl full_share (Some x) b o) $
          pick ! (λ w. split ! $ move ! (1 ∷ []) $ fsplit ! $ drop ! $
          unwraps member ! ((param_laws 0 T L).lawful 𝓛) [] [] x (w ∷ []) (λ v good e.
          show ! (λ (u : Val). guard 𝓤 (Good (E T L) u) (sep 𝓤 (H.at full_share (τ T) b (item_place o) u) (sep 𝓤 (sem 𝓛 (T.own_val x (u ∷ []))) left))) v $
          check ! good $ move ! (1 ∷ []) $ rewrite ! 0 (λ (u : Val). ‵ (fat full_share moved_type b o u)) (ap only e) refl $
          use1 𝓛 (‵ (fat full_share (τ T) b (item_place o) v) ⊛ raw (all 𝓤 Back)) (𝓛.laws.at_field full_share _ _ 0 (τ T) (up (align (τ T)) 0) refl b o (vcons v vnil)) $
          split ! $ move ! (0 ∷ 2 ∷ 1 ∷ []) $ done !))

      filled : (u : Val) → ent 𝓤 (sep 𝓤 (H.at full_share (τ T) b (item_place o) u) left) (H.at full_share moved_type b o (round u))
      unfolding left
      filled u = qed 𝓛 (‵ (fat full_share (τ T) b (item_place o) u) ∷ raw (all 𝓤 Back) ∷ []) ∵ move ! (1 ∷ []) $
          use1 𝓛 (raw (Back u)) (all_e 𝓤 Back u) $ move ! (1 ∷ 0 ∷ []) $ by ! (apply∗ 𝓤 (H.at full_share (τ T) b (item_place o) u) (H.at full_share moved_type b o (round u)))

      pub item_back : (x : T.Denot) → ent 𝓤 (sep 𝓤 (sem 𝓛 (part_at (P T) full_share x b (item_place o))) left) (sem 𝓛 (part_at Moved full_share (Some x) b o))
      item_back x = qed 𝓛 (‵ (part_at (P T) full_share x b (item_place o)) ∷ raw left ∷ []) ∵
          use1 𝓛 (some (λ (v : Val). given (Good (E T L) v) (‵ (fat full_share (τ T) b (item_place o) v) ⊛ ‵ (T.own_val x (v ∷ []))))) (item_out T L 𝓛 x b (item_place o)) $
          pick ! (λ v. learn ! (λ good. split ! $ move ! (0 ∷ 2 ∷ []) $
          use2 𝓛 (‵ (fat full_share moved_type b o (round v))) (filled v) $ move ! (1 ∷ []) $
          use1 𝓛 (‵ (Moved.own_val (Some x) (round v ∷ []))) (moved_made x v good) $ move ! (1 ∷ 0 ∷ []) $
          by ! (part_in 𝓛 Moved refl full_share (Some x) b o (round v))))

      pub item_gone : (u : Val) → Good (E T L) u → ent 𝓤 (sep 𝓤 (H.at full_share (τ T) b (item_place o) u) left) (sem 𝓛 (part_at Moved full_share None b o))
      item_gone u good = qed 𝓛 (‵ (fat full_share (τ T) b (item_place o) u) ∷ raw left ∷ []) ∵
          use2 𝓛 (‵ (fat full_share moved_type b o (round u))) (filled u) $ nothing ! $
          fpack ! (Typed Moved.mir (round u ∷ [])) (λ _. ftrue) (Good-round [] (τ T) u good, tt) $ nothing ! $ move ! (1 ∷ 0 ∷ []) $ fjoin ! $ move ! (1 ∷ 0 ∷ []) $
          by ! (part_in 𝓛 Moved refl full_share None b o (round u))

      -- a share of the bytes that an item left
      abbrev pub Bytes : Share → Fml
      Bytes q = part_at Bare q None b o

      abbrev At : Share → Val → SProp 𝓤
      At q w = H.at q moved_type b o w

      pub bytes_out : (q : Share) → ent 𝓤 (sem 𝓛 (Bytes q)) (ex 𝓤 (λ (w : Val). guard 𝓤 (WellTyped moved_type w) (At q w)))
      bytes_out q = qed 𝓛 (‵ (Bytes q) ∷ []) ∵
          use1 𝓛 (some (λ (w : Val). ‵ (fat q moved_type b o w) ⊛ ‵ ftrue)) (part_out 𝓛 Bare refl q None b o) $
          pick ! (λ w. split ! $ move ! (1 ∷ []) $ drop ! $ well_typed ! (λ t.
          show ! (λ (u : Val). guard 𝓤 (WellTyped moved_type u) (At q u)) w $ check ! t $ done !))

      pub bytes_in : (q : Share) (w : Val) → ent 𝓤 (At q w) (sem 𝓛 (Bytes q))
      bytes_in q w = qed 𝓛 (‵ (fat q moved_type b o w) ∷ []) ∵ nothing ! $ move ! (1 ∷ 0 ∷ []) $ by ! (part_in 𝓛 Bare refl q None b o w)

      module _ (𝓜 : Model 𝓤 H) where
        joined : (q q₁ q₂ : Share) → q ∈ Share.op q₁ q₂ → (w w' : Val) → ent 𝓤 (sep 𝓤 (At q₁ w) (At q₂ w')) (sem 𝓛 (Bytes q))
        joined q q₁ q₂ m w w' =
            fact_use 𝓤 (w ≡ w') (via 𝓤 (conj 𝓤 (At q₁ w) (At q₂ w')) (conj_i 𝓤 (At q₁ w) (At q₂ w') (fst∗ 𝓤 (At q₁ w) (At q₂ w')) (snd∗ 𝓤 (At q₁ w) (At q₂ w'))) (𝓜.at_agree q₁ q₂ moved_type b o w w'))
            (λ same. qed 𝓛 (‵ (fat q₁ moved_type b o w) ∷ ‵ (fat q₂ moved_type b o w') ∷ []) ∵
            rewrite ! 1 (λ (u : Val). ‵ (fat q₂ moved_type b o u)) (sym same) refl $
            use2 𝓛 (‵ (fat q moved_type b o w)) (𝓛.laws.at_join q q₁ q₂ m moved_type b o w) $ by ! (bytes_in q w))

        pub bytes_halves : Halves 𝓤 H 𝓛.A Bytes
        bytes_halves = Cuts-Halves 𝓛 Bytes (record {
          cut = λ q q₁ q₂ m. qed 𝓛 (‵ (Bytes q) ∷ []) ∵
              use1 𝓛 (some (λ (w : Val). given (WellTyped moved_type w) (‵ (fat q moved_type b o w)))) (bytes_out q) $
              pick ! (λ w. learn ! (λ t. use1 𝓛 (‵ (fat q₁ moved_type b o w) ⊛ ‵ (fat q₂ moved_type b o w)) (𝓛.laws.at_split q q₁ q₂ m moved_type b o w) $
              split ! $ use1 𝓛 (‵ (Bytes q₁)) (bytes_in q₁ w) $ move ! (1 ∷ 0 ∷ []) $ use1 𝓛 (‵ (Bytes q₂)) (bytes_in q₂ w) $ move ! (1 ∷ 0 ∷ []) $ done !));
          join = λ q q₁ q₂ m. qed 𝓛 (‵ (Bytes q₁) ∷ ‵ (Bytes q₂) ∷ []) ∵
              use1 𝓛 (some (λ (w : Val). given (WellTyped moved_type w) (‵ (fat q₁ moved_type b o w)))) (bytes_out q₁) $
              pick ! (λ w. learn ! (λ t. move ! (1 ∷ 0 ∷ []) $
              use1 𝓛 (some (λ (w' : Val). given (WellTyped moved_type w') (‵ (fat q₂ moved_type b o w')))) (bytes_out q₂) $
              pick ! (λ w'. learn ! (λ t'. move ! (1 ∷ 0 ∷ []) $ by ! (joined q q₁ q₂ m w w')))));
        })

pub moved_send : (T : RattleType) → IsSend T → IsSend (moved.the_row T)
moved_send T send = record { owned = λ held vs. (λ _. tt, owned held vs); leaving = λ k x w. tt }
  where
    owned : (held : Option T.Denot) (vs : List Val) → Keyless (moved.the_own T held vs)
    owned (Some x) vs = (struct_send (Declared.shape (inside.the_type T)) (send, tt)).owned (x, tt) vs
    owned None vs = tt

bytes_keyless : (T : RattleType) (q : Share) (b o : ℕ) → Keyless (part_at (moved.the_written T) q None b o)
unfolding part_of
bytes_keyless T q b o = λ vs. (cell_keyless q (raw_all (inside.the_row T).mir) vs b o, tt)

pub moved_sync : (T : RattleType) → IsSync T → IsSync (moved.the_row T)
moved_sync T sync = record { shared = shared }
  where
    shared : (held : Option T.Denot) (b o : ℕ) (κ : Lft) → Keyless ((moved.the_row T).shr_at held b o κ)
    shared (Some x) b o κ = (struct_sync (Declared.shape (inside.the_type T)) (sync, tt)).shared (x, tt) b o κ
    shared None b o κ = λ q. bytes_keyless T q b o
