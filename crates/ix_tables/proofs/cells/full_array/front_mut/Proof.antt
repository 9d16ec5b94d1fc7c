-- `front_mut` lends the first places of a row. The borrow checker proves no write-back clause for a part of a slice, so
-- this proof walks the code by hand: a call lends all places, and the first of them are lent on. Assumes `Logic`.
use Rattle.std.proofs.Common.{ℕ, ◌^◌, ◌<◌, ◌≤◌, List, [], ◌∷◌, length, take, refl, sym, ap, arith, w64, MutBor}
use Rattle.std.proofs.raw_atomic.Walks.{proved}
use Rattle.std.specs.List.{refill, length_refill}
use mir.Syntax.{Fn, named}
use mir.MapTy.{inst_fn}
use mir.Val.{Val, vint}
use base.Logic.{id⊢}
use base.Fml.{Lft, Share}
use contract.BorrowLft.{◌⊑◌}
use contract.Monad.{fact}
use contract.Running.{tables}
use prog.Memory.{size}
use types.Kit.{‵, raw, ◌⊛◌, later, some, ◌$◌, ◌∵◌, !, qed, move, keep, drop, split, split3, join, use1, use2, fjoin, await, pick, suffices, frame, rewrite, done}
use types.Part.{whole, sub, agg}
use types.Run.{enter, returns, addr, from, fld, hop, stop, and_then, no_more}
use types.ByLocal.{alloc_all, pass_all, free_all, look_at, look_in_at, get, through, sets, lands_as}
use denote.Array.{Array}
use denote.Builtin.{usize}
use denote.Exit.{yes}
use denote.Follow.{follows}
use denote.Laws.{shows}
use denote.Param.{layout, number}
use denote.Plain.{uint_vals, uint_Tells}
use denote.RattleType.{RattleType, owns}
use denote.Ref.{MutRef, mut_vals, mut_Tells}
use denote.Signature.{plain}
use denote.Slice.{slice_val}
use denote.Steps.{nothing, heard, peeks, only}
use denote.Triple.Call.{calls_at}
use denote.Triple.Entry.{alive}
use denote.Triple.Spec.{triple_of}
use denote.Triple.Table.{framed}
use denote.Triple.Walked.{says, Goes-dropped, Goes-spent_ref, walk_of, ends_at}
use Rattle.ix_tables.proofs.Fronts.{lent, lends}
use Rattle.ix_tables.proofs.Loans.{args, R, S, Slice, ends, lent_on, stayed, AllLent}
use Rattle.ix_tables.proofs.cells.full_array.all_mut.Met.{met}
use Rattle.ix_tables.proofs.cells.full_array.front_mut.Statement.{statement}
use Rattle.ix_tables.proofs.cells.full_array.front_mut.Code as code
use Rattle.ix_tables.specs.contracts.cells.full_array.all_mut as g
use Rattle.ix_tables.specs.contracts.cells.full_array.front_mut as f

module _ (X : RattleType) (cap : ℕ) where
  abbrev function : Fn
  function = inst_fn (args X cap) code.function

pub front_mut_spec : {M : Type 1} → statement M
front_mut_spec 𝓤 𝓛 𝓜 𝓡 wired X cap L fits =
    let N : RattleType = number cap in let T = f.ended X N in
    let c = f.clauses X N 𝓛 𝓜.mem 𝓡.returns in let W = walk_of 𝓛 T (stayed X cap) c in
    proved 𝓛 T (stayed X cap) c 𝓜 𝓡 (Goes-spent_ref 𝓛 3 (0 ∷ []) tt (plain (λ _. S X cap)), (Goes-dropped 𝓛 3 (plain (λ _. usize)) yes (λ κs x w. refl), tt))
    (f.Key.name (args X cap)) (function X cap) (code.unfolded 𝓤 𝓛.H 𝓜 𝓡 wired (X, (N, tt)))
    (λ κs. (mut_vals, (uint_vals w64, tt))) (λ κs. (mut_Tells (named 0) κs.0 (S X cap), (uint_Tells w64, tt))) (λ κs qs bounds a _ are.
    let κ : Lft = κs.0 in let q : Share = qs.0 in let r : MutBor (S X cap).Denot = a.0 in let n : ℕ = a.1.0 in let ys : List X.Denot = r.now.items in
    let y : W.Ghost = ((κs, qs, bounds, a, (mut_vals r, (vint w64 n ∷ [], tt))), tt) in
    let G = triple_of 𝓛 (g.signature X N) (g.spec X N 𝓛 𝓜.mem 𝓡.returns) in
    let z : G.Ghost = ((κs, qs, bounds, (r, tt), (mut_vals r, tt)), tt) in
    qed 𝓛 ((raw (alive 𝓛 T.signature κs qs) ⊛ ‵ ((MutRef (named 0) κ (S X cap)).own_val r (mut_vals r)) ⊛ ‵ (owns (usize ∷ []) a.1 y.0.4.1))
    ∷ (raw (fact 𝓤 (κs.1.0 ⊑ X.lives)) ⊛ raw (fact 𝓤 (κs.1.1.0 ⊑ [])) ⊛ raw (fact 𝓤 (size (layout (S X cap)) < 2 ^ 63)) ⊛ raw (fact 𝓤 (n ≤ length ys))) ∷ []) ∵
    split3 ! $ nothing ! $ move ! (2 ∷ 0 ∷ []) $ join ! $ move ! (1 ∷ 0 ∷ []) $ join ! $
    -- [the tokens and the row; the number; the conditions]
    move ! (2 ∷ []) $ split3 ! $ move ! (2 ∷ []) $ split ! $ move ! (1 ∷ []) $ heard ! _ (λ within.
    nothing ! $ move ! (1 ∷ 0 ∷ []) $ join ! $ move ! (2 ∷ 0 ∷ []) $ join ! $ move ! (1 ∷ 0 ∷ []) $ join ! $
    -- [the conditions of the call; the tokens and the row; the number]
    move ! (1 ∷ 0 ∷ []) $ use2 𝓛 (raw (G.pre z)) (id⊢ 𝓤 _) $ keep ! (0 ∷ []) $
    enter ! _ _ _ _ _ $ alloc_all ! (λ l. pass_all ! refl ((tt, tt), ((tt, record { fits = are.1.0.1 }), tt)) $
    sets ! (addr ! (through ! refl (stop !))) refl (tt, tt) $
    calls_at ! (framed 𝓤 𝓛.H 𝓜 (tables 𝓤 𝓛.H 𝓜 𝓡 𝓡.env)) G (met 𝓤 𝓛 𝓜 𝓡 (code.calls-ix_tables::cells::full_array::all_mut 𝓡.env wired) X cap L fits) z
    (and_then ! (get ! refl) (no_more !)) (λ v.
    use1 𝓛 (AllLent X cap 𝓛 κs qs r v) (id⊢ 𝓤 _) $
    await ! tt $ pick ! (λ all. split ! $ split ! $ move ! (2 ∷ []) $ pick ! (λ ws. split3 ! $ drop ! $ move ! (1 ∷ []) $ heard ! _ (λ same.
    -- [what the row ends as; the tokens; the reference to all places; the locals]
    move ! (2 ∷ []) $ peeks ! (Slice X cap κ) _ (shows 𝓛 (Slice X cap κ)) all (v ∷ []) (λ is.
    rewrite ! 0 (λ (vs : List Val). ‵ ((Slice X cap κ).own_val all vs)) is.0.0 refl $
    lands_as ! (ap only is.0.0) refl (tt, (tt, (record { fits = is.0.1.0 }, tt))) $
    sets ! (addr ! (from ! (fld ! refl (hop ! (look_in_at ! 3 (sub ! 0 refl (whole !))) (stop !))))) refl (tt, tt) $
    sets ! (agg ! (and_then ! (get ! refl) (and_then ! (get ! refl) (no_more !)))) refl (tt, (tt, (record { fits = are.1.0.1 }, tt))) $
    let inside : n ≤ length all.now = omega (arith, ap length same) in let b : ℕ = all.ref_ptr.0 in let o : ℕ = all.ref_ptr.1 in
    move ! (2 ∷ []) $ split ! $ move ! (2 ∷ 0 ∷ []) $
    use2 𝓛 (later (some (lent 𝓛 (R X cap) κ q b o all.ghost_name all.now n inside))) (lends 𝓛 (R X cap) κ q b o all.ghost_name all.now n inside is.0.1) $
    await ! tt $ pick ! (λ δ. split3 ! $ move ! (4 ∷ 2 ∷ []) $
    rewrite ! 1 (λ (xs : List X.Denot). ‵ (follows (Array (R X cap) 0) (Array (R X cap) 0) all.ghost_name δ (refill (length xs) xs))) same refl $
    use2 𝓛 (‵ (ends X cap (Array (R X cap) 0) (refill (length ys) ys) r.ghost_name δ))
    (lent_on X cap 𝓛 (Array (R X cap) 0) (refill (length ys) ys) r.ghost_name all.ghost_name δ ys (λ w. sym (length_refill (length ys) ys w refl))) $
    returns ! (look_at ! 0 refl) $ free_all ! refl $
    -- [what the row ends as; the reference to the first places; the token of κ; the other tokens]
    suffices ! _ (ends_at 𝓛 T (stayed X cap) c y (slice_val (b, o) n) (record { ref_ptr = (b, o); ghost_name = δ; now = take n all.now }) (tt, (tt, tt)) (tt, (tt, tt))) $
    nothing ! $ nothing ! $ fjoin ! $ nothing ! $ fjoin ! $ move ! (0 ∷ 2 ∷ []) $ join ! $ move ! (2 ∷ 3 ∷ []) $ join ! $ join ! $ frame ! $ says ! (ap (take n) same) $ done !)))))))))
