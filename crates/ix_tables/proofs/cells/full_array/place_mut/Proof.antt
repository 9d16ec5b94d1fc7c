-- `place_mut` lends one place of a row. The borrow checker learns nothing of a call that takes a slice and lends a part of
-- it, so this proof walks the code by hand: one call lends all places, another lends one of them on. Assumes `Logic`.
use Rattle.std.proofs.Math.ListN.{length-set}
use Rattle.std.proofs.Common.{◌≡◌, ℕ, ◌^◌, ◌<◌, List, [], ◌∷◌, ◌∙◌, length, refl, ap, arith, w64, MutBor}
use Rattle.std.proofs.raw_atomic.Walks.{proved}
use Rattle.std.specs.Prelude.{slice_set, slice_index_or}
use seplogic.Ra.Ura.{Ura}
use mir.Syntax.{Fn, named}
use mir.MapTy.{inst_fn}
use mir.Val.{Val, vint, vptr}
use base.Logic.{id⊢}
use base.Fml.{Lft, Share, ftrue, flft}
use contract.Lifetimes.{Lfts, Shares}
use contract.BorrowLft.{◌⊑◌}
use contract.Monad.{fact}
use contract.Running.{tables}
use prog.Memory.{size}
use types.Logic.{Logic}
use types.Kit.{Item, ‵, raw, ◌⊛◌, later, some, ◌$◌, ◌∵◌, !, qed, move, keep, drop, split, split3, join, use1, use2, fjoin, await, pick, suffices, frame, rewrite, done}
use types.Run.{enter, returns, addr, stop, and_then, no_more}
use types.ByLocal.{alloc_all, pass_all, free_all, look_at, get, through, sets, lands_as}
use denote.Array.{Array}
use denote.Builtin.{usize}
use denote.Exit.{yes}
use denote.Follow.{follows}
use denote.Laws.{shows}
use denote.Param.{layout, number}
use denote.Plain.{uint_vals, uint_Tells}
use denote.RattleType.{RattleType, owns}
use denote.Ref.{MutRef, mut_vals, mut_Tells}
use denote.Signature.{plain}
use denote.Slice.{mut_slice_vals}
use denote.Steps.{nothing, heard, peeks, only}
use denote.Triple.Call.{calls_at}
use denote.Triple.Clauses.{Lasts, lasts}
use denote.Triple.Entry.{alive}
use denote.Triple.Spec.{triple_of}
use denote.Triple.Table.{framed}
use denote.Triple.Walked.{says, Goes-dropped, Goes-spent_ref, walk_of, ends_at}
use Rattle.ix_tables.proofs.Loans.{args, R, S, Slice, ends, lent_on, stayed, AllLent, states}
use Rattle.ix_tables.proofs.cells.full_array.all_mut.Met.{met as all_met}
use Rattle.ix_tables.proofs.cells.full_array.place_of.Met.{met as place_met}
use Rattle.ix_tables.proofs.cells.full_array.place_mut.Statement.{statement}
use Rattle.ix_tables.proofs.cells.full_array.place_mut.Code as code
use Rattle.ix_tables.specs.contracts.cells.full_array.all_mut as g
use Rattle.ix_tables.specs.contracts.cells.full_array.place_of as h
use Rattle.ix_tables.specs.contracts.cells.full_array.place_mut as f

module _ (X : RattleType) (cap : ℕ) where
  abbrev function : Fn
  function = inst_fn (args X cap) code.function

  -- a reference to one place
  abbrev One : Lft → RattleType
  One κ = MutRef (named 0) κ (R X cap)

  -- what `place_of` gives of all places, at the machine value v:  a reference to place i, two tokens, and what all places end as
  module _ {M : Type 1} {𝓤 : Ura M} (𝓛 : Logic 𝓤) (κs : Lfts 2) (qs : Shares 2) (all : MutBor (List X.Denot)) (i : ℕ) where
    abbrev PlaceLent : Val → Item 𝓤
    PlaceLent v =
        later (some (λ (place : MutBor X.Denot).
        ((‵ (flft κs.0 qs.0) ⊛ ‵ (flft κs.1.0 qs.1.0) ⊛ ‵ ftrue) ⊛ ‵ ((One κs.0).own_val place (v ∷ [])))
        ⊛ some (λ (ws : Lasts (h.ended X) κs (all, (i, tt))). ‵ (lasts (h.ended X) κs (all, (i, tt)) ws)
        ⊛ ‵ (follows (Array (R X cap) 0) (R X cap) all.ghost_name place.ghost_name (slice_set all.now i))
        ⊛ raw (fact 𝓤 (place.now ≡ slice_index_or all.now i place.now)))))

pub place_mut_spec : {M : Type 1} → statement M
place_mut_spec 𝓤 𝓛 𝓜 𝓡 wired X cap L fits =
    let N : RattleType = number cap in let T = f.ended X N in
    let c = f.clauses X N 𝓛 𝓜.mem 𝓡.returns in let W = walk_of 𝓛 T (stayed X cap) c in
    proved 𝓛 T (stayed X cap) c 𝓜 𝓡 (Goes-spent_ref 𝓛 3 (0 ∷ []) tt (plain (λ _. S X cap)), (Goes-dropped 𝓛 3 (plain (λ _. usize)) yes (λ κs x w. refl), tt))
    (f.Key.name (args X cap)) (function X cap) (code.unfolded 𝓤 𝓛.H 𝓜 𝓡 wired (X, (N, tt)))
    (λ κs. (mut_vals, (uint_vals w64, tt))) (λ κs. (mut_Tells (named 0) κs.0 (S X cap), (uint_Tells w64, tt))) (λ κs qs bounds a _ are.
    let κ : Lft = κs.0 in let q : Share = qs.0 in let r : MutBor (S X cap).Denot = a.0 in let i : ℕ = a.1.0 in let ys : List X.Denot = r.now.items in
    let y : W.Ghost = ((κs, qs, bounds, a, (mut_vals r, (vint w64 i ∷ [], tt))), tt) in
    let G = triple_of 𝓛 (g.signature X N) (g.spec X N 𝓛 𝓜.mem 𝓡.returns) in
    let z : G.Ghost = ((κs, qs, bounds, (r, tt), (mut_vals r, tt)), tt) in
    let H = triple_of 𝓛 (h.signature X) (h.spec X 𝓛 𝓜.mem 𝓡.returns) in
    qed 𝓛 ((raw (alive 𝓛 T.signature κs qs) ⊛ ‵ ((MutRef (named 0) κ (S X cap)).own_val r (mut_vals r)) ⊛ ‵ (owns (usize ∷ []) a.1 y.0.4.1))
    ∷ (raw (fact 𝓤 (κs.1.0 ⊑ X.lives)) ⊛ raw (fact 𝓤 (κs.1.1.0 ⊑ [])) ⊛ raw (fact 𝓤 (size (layout (S X cap)) < 2 ^ 63)) ⊛ raw (fact 𝓤 (i < length ys))) ∷ []) ∵
    split3 ! $ nothing ! $ move ! (2 ∷ 0 ∷ []) $ join ! $ move ! (1 ∷ 0 ∷ []) $ join ! $
    -- [the tokens and the row; the number; the conditions]
    move ! (2 ∷ []) $ split3 ! $ heard ! _ (λ outlives. move ! (1 ∷ []) $ split ! $ move ! (1 ∷ []) $ heard ! _ (λ within.
    nothing ! $ move ! (1 ∷ 0 ∷ []) $ join ! $ move ! (1 ∷ 0 ∷ []) $ join ! $
    states ! outlives $ join ! $
    -- [the conditions of the call; the tokens and the row; the number]
    move ! (1 ∷ 0 ∷ []) $ use2 𝓛 (raw (G.pre z)) (id⊢ 𝓤 _) $ keep ! (0 ∷ 1 ∷ []) $
    enter ! _ _ _ _ _ $ alloc_all ! (λ l. pass_all ! refl ((tt, tt), ((tt, record { fits = are.1.0.1 }), tt)) $
    sets ! (addr ! (through ! refl (stop !))) refl (tt, tt) $
    calls_at ! (framed 𝓤 𝓛.H 𝓜 (tables 𝓤 𝓛.H 𝓜 𝓡 𝓡.env)) G (all_met 𝓤 𝓛 𝓜 𝓡 (code.calls-ix_tables::cells::full_array::all_mut 𝓡.env wired) X cap L fits) z
    (and_then ! (get ! refl) (no_more !)) (λ v.
    use1 𝓛 (AllLent X cap 𝓛 κs qs r v) (id⊢ 𝓤 _) $
    await ! tt $ pick ! (λ all. split ! $ split ! $ move ! (2 ∷ []) $ pick ! (λ ws. split3 ! $ drop ! $ move ! (1 ∷ []) $ heard ! _ (λ same.
    -- [what the row ends as; the tokens; the reference to all places; the number; the locals]
    move ! (2 ∷ []) $ peeks ! (Slice X cap κ) _ (shows 𝓛 (Slice X cap κ)) all (v ∷ []) (λ is.
    rewrite ! 0 (λ (vs : List Val). ‵ ((Slice X cap κ).own_val all vs)) is.0.0 refl $
    lands_as ! (ap only is.0.0) refl (tt, (tt, (record { fits = is.0.1.0 }, tt))) $
    -- [the reference to all places; what the row ends as; the tokens; the number; the locals]
    let short_κs : Lfts 2 = (κ, (κs.1.0, tt)) in let short_qs : Shares 2 = (q, (qs.1.0, tt)) in
    let z' : H.Ghost = ((short_κs, short_qs, bounds, (all, (i, tt)), (mut_slice_vals all, (vint w64 i ∷ [], tt))), tt) in
    move ! (0 ∷ 3 ∷ []) $ join ! $ move ! (2 ∷ []) $ split3 ! $ nothing ! $ move ! (2 ∷ 0 ∷ []) $ join ! $ move ! (1 ∷ 0 ∷ []) $ join ! $
    -- [the tokens of the call; the token that is left; the reference and the number; what the row ends as]
    move ! (0 ∷ 2 ∷ []) $ join ! $
    let inside : i < length all.now = omega (arith, ap length same) in states ! inside $ states ! outlives $ join ! $
    move ! (1 ∷ 0 ∷ []) $ use2 𝓛 (raw (H.pre z')) (id⊢ 𝓤 _) $
    calls_at ! (framed 𝓤 𝓛.H 𝓜 (tables 𝓤 𝓛.H 𝓜 𝓡 𝓡.env)) H (place_met 𝓤 𝓛 𝓜 𝓡 (code.calls-ix_tables::cells::full_array::place_of 𝓡.env wired) X L) z'
    (and_then ! (get ! refl) (and_then ! (get ! refl) (no_more !))) (λ w.
    use1 𝓛 (PlaceLent X cap 𝓛 short_κs short_qs all i w) (id⊢ 𝓤 _) $
    await ! tt $ pick ! (λ place. split ! $ split ! $ move ! (2 ∷ []) $ pick ! (λ ws'. split3 ! $ drop ! $ move ! (1 ∷ []) $ heard ! _ (λ holds.
    -- [what all places end as; the tokens; the reference to the place; the token that is left; what the row ends as]
    move ! (4 ∷ 0 ∷ []) $
    rewrite ! 1 (λ (xs : List X.Denot). ‵ (follows (Array (R X cap) 0) (R X cap) all.ghost_name place.ghost_name (slice_set xs i))) same refl $
    use2 𝓛 (‵ (ends X cap (R X cap) (slice_set ys i) r.ghost_name place.ghost_name))
    (lent_on X cap 𝓛 (R X cap) (slice_set ys i) r.ghost_name all.ghost_name place.ghost_name ys (λ w. length-set ys i w)) $
    move ! (2 ∷ []) $ peeks ! (One X cap κ) _ (shows 𝓛 (One X cap κ)) place (w ∷ []) (λ at.
    rewrite ! 0 (λ (vs : List Val). ‵ ((One X cap κ).own_val place vs)) at.0 refl $
    lands_as ! (ap only at.0) refl (tt, tt) $
    returns ! (look_at ! 0 refl) $ free_all ! refl $
    -- [the reference to the place; what the row ends as; the tokens of the call; the token that is left]
    suffices ! _ (ends_at 𝓛 T (stayed X cap) c y (vptr place.ref_ptr.0 place.ref_ptr.1) place (tt, (tt, tt)) (tt, (tt, tt))) $
    move ! (2 ∷ []) $ split3 ! $ move ! (1 ∷ 5 ∷ []) $ join ! $ move ! (1 ∷ 0 ∷ []) $ join ! $
    -- [all tokens; nothing; the reference to the place; what the row ends as]
    move ! (1 ∷ []) $ nothing ! $ fjoin ! $ nothing ! $ fjoin ! $ move ! (0 ∷ 2 ∷ []) $ join ! $ move ! (1 ∷ 0 ∷ []) $ join ! $ frame ! $
    says ! (holds ∙ ap (λ (xs : List X.Denot). slice_index_or xs i place.now) same) $ done !))))))))))))))
