-- `item` shows the item of a held place. Assumes `Logic`.
use Rattle.ix_tables.proofs.RawNames.{◌≡◌, ℕ, List, [], ◌∷◌, Some, refl, proved, leaves, SProp, emp, ftrue, flft, Fn, named, inst_fn}
use Rattle.ix_tables.proofs.RawNames.{Val, vptr, ◌⊑◌, fact, fact_i, tables, ‵, raw, ◌⊛◌, at_ret, ◌$◌, ◌∵◌, !, qed, by, move, keep}
use Rattle.ix_tables.proofs.RawNames.{drop, use0, split, rewrite, fsplit, fjoin, feq_i, stop, addr, of_opd, bin, align_word, first}
use Rattle.ix_tables.proofs.RawNames.{blocks, exec, returns, enter, alloc_all, pass_all, free_all, look_at, get, through, sets}
use Rattle.ix_tables.proofs.RawNames.{sets_last, env, RefOf, yes, hide, unhide, layout, owns, shr_vals, shr_Tells, plain, types_at}
use Rattle.ix_tables.proofs.RawNames.{nothing, heard, Stays, stay_dropped, walk_of, Goes-dropped, after}
use Rattle.std.specs.Prelude.{IsSome}
use denote.Ref.{Bor}
use Rattle.ix_tables.specs.contracts.cells.held_item.item as f
use Rattle.ix_tables.proofs.HeldItems.{Item, Place, behind, lies_behind}
use Rattle.ix_tables.proofs.Places.{held_item}
use Rattle.ix_tables.proofs.RawSteps.{inst}
use Rattle.ix_tables.proofs.cells.held_item.item.Statement.{statement}
use Rattle.ix_tables.proofs.cells.held_item.item.Code as code

pub item_spec : {M : Type 1} → statement M
item_spec 𝓤 𝓛 𝓜 𝓡 wired T L =
    let H = 𝓛.H in let 𝓣 = tables 𝓤 H 𝓜 𝓡 𝓡.env in let fn : Fn = inst_fn (inst T) code.function in
    let ended = f.ended T in let c = f.clauses T 𝓛 𝓜.mem 𝓡.returns in
    let S = Place T L in let R = Item T L in
    let lent = RefOf (0 ∷ []) tt (plain (λ _. S)) (λ _. tt) in
    let stayed : Stays ended.signature.params ended.kept = (stay_dropped lent yes, tt) in
    let W = walk_of 𝓛 ended stayed c in
    proved 𝓛 ended stayed c 𝓜 𝓡 (Goes-dropped 𝓛 2 lent yes (λ κs x w. refl), tt)
    (f.Key.name (inst T)) fn (code.unfolded 𝓤 H 𝓜 𝓡 wired (T, tt))
    (λ κs. (shr_vals, tt)) (λ κs. (shr_Tells (named 0) κs.0 S, tt)) (λ κs qs bounds a g are.
    let κ = κs.0 in let self : Bor S.Denot = a.0 in let b = self.ref_ptr.0 in let o = self.ref_ptr.1 in
    let y : W.Ghost = ((κs, qs, bounds, a, (shr_vals self, tt)), g) in let Post : Val → SProp 𝓤 = W.post y in
    qed 𝓛 (((‵ (flft κ qs.0) ⊛ ‵ (flft κs.1.0 qs.1.0) ⊛ ‵ ftrue) ⊛ ‵ (owns (types_at ended.signature.params κs) a y.0.4))
    ∷ (raw (fact 𝓤 (κs.1.0 ⊑ T.lives)) ⊛ raw (fact 𝓤 (IsSome self.now))) ∷ []) ∵
    move ! (1 ∷ []) $ split ! $ drop ! $ heard ! _ (λ held. split ! $ move ! (1 ∷ []) $ fsplit ! $ fsplit ! $ keep ! (1 ∷ 3 ∷ []) $
    -- [what self lends; the tokens]
    enter ! 𝓣.C 𝓣.Λ fn (W.args y) Post $
    alloc_all ! (λ l. pass_all ! refl ((tt, tt), tt) $
    let Ev = env fn.locals l in let found = held_item self.now held in let x = found.0 in let at = behind (layout T) o in
    first ! $ blocks ! $
    sets ! (addr ! (through ! refl (stop !))) refl (tt, tt) $
    sets ! (of_opd ! (get ! refl)) refl (tt, tt) $
    sets ! (bin ! (get ! refl) (align_word !) tt) refl (tt, tt) $
    sets ! (of_opd ! (get ! refl)) refl (tt, tt) $
    sets_last ! (addr ! (through ! refl (stop !))) refl (tt, tt) $
    exec ! 𝓣.C 𝓣.Λ Ev (after 1 fn.body) (at_ret Ev Post) $
    sets ! (of_opd ! (get ! refl)) refl (tt, tt) $
    unhide ! $ rewrite ! 0 (λ (place : S.Denot). ‵ (S.shr_at place b o κ)) found.1 refl $
    fsplit ! $ fsplit ! $ move ! (1 ∷ []) $ fsplit ! $
    rewrite ! 0 (λ (k : ℕ). ‵ (R.shr_at x b k κ)) (lies_behind (layout T) o) refl $ hide ! $ move ! (1 ∷ 2 ∷ 3 ∷ []) $ drop ! $ drop ! $ drop ! $
    feq_i ! (List Val) (vptr b at ∷ []) (vptr b at ∷ []) refl $ fjoin ! $ nothing ! $ nothing ! $ fjoin ! $
    use0 𝓛 (raw (fact 𝓤 (self.now ≡ Some x))) (fact_i 𝓤 (self.now ≡ Some x) (emp 𝓤) found.1) $
    returns ! (look_at ! 0 refl) $ free_all ! refl $ keep ! (3 ∷ 1 ∷ 2 ∷ 0 ∷ []) $
    by ! (leaves 𝓛 ended stayed c y (vptr b at) (record { ref_ptr = (b, at); now = x }) (tt, tt) (tt, tt)))))
