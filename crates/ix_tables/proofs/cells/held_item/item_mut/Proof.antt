-- `item_mut` lends the item of a held place, which stays held. Assumes `Logic`.
use Rattle.ix_tables.proofs.RawNames.{◌≡◌, [], ◌∷◌, Some, refl, proved, leaves, full_share, SProp, emp, id⊢}
use Rattle.ix_tables.proofs.RawNames.{GName, ftrue, flft, Fn, named, inst_fn, Val, vptr, ◌⊑◌, fact, fact_i, tables}
use Rattle.ix_tables.proofs.RawNames.{‵, raw, ◌⊛◌, some, later, at_ret, ◌$◌, ◌∵◌, !, qed, by, move, keep, drop, pick, await, use0, use1}
use Rattle.ix_tables.proofs.RawNames.{split, split3, join, group, rewrite, fsplit, fsplit3, fjoin, stop, addr, of_opd, bin, align_word}
use Rattle.ix_tables.proofs.RawNames.{first, blocks, exec, returns, enter, alloc_all, pass_all, free_all, look_at, get, through, sets}
use Rattle.ix_tables.proofs.RawNames.{sets_last, env, no, mem, layout, owns, MutBor, MutRef, mut_vals, plain, types_at, mut_ref_to}
use Rattle.ix_tables.proofs.RawNames.{nothing, heard, Stays, stay_dropped, walk_of, Goes-spent_ref, after}
use Rattle.std.specs.Prelude.{IsSome}
use types.Mut.{open_ref}
use denote.Follow.{follows, Part, lends_Part}
use denote.Memory.{part_at}
use denote.Ref.{mut_Tells}
use Rattle.ix_tables.specs.contracts.cells.held_item.item_mut as f
use Rattle.ix_tables.proofs.HeldItems.{Item, Place, behind, left, item_apart, item_back}
use Rattle.ix_tables.proofs.Places.{held_item}
use Rattle.ix_tables.proofs.RawSteps.{inst}
use Rattle.ix_tables.proofs.cells.held_item.item_mut.Statement.{statement}
use Rattle.ix_tables.proofs.cells.held_item.item_mut.Code as code

pub item_mut_spec : {M : Type 1} → statement M
item_mut_spec 𝓤 𝓛 𝓜 𝓡 wired T L =
    let H = 𝓛.H in let 𝓣 = tables 𝓤 H 𝓜 𝓡 𝓡.env in let fn : Fn = inst_fn (inst T) code.function in
    let ended = f.ended T in let c = f.clauses T 𝓛 𝓜.mem 𝓡.returns in
    let S = Place T L in let R = Item T L in
    let lent = mut_ref_to (0 ∷ []) tt (plain (λ _. S)) in
    let stayed : Stays ended.signature.params ended.kept = (stay_dropped lent no, tt) in
    let W = walk_of 𝓛 ended stayed c in
    proved 𝓛 ended stayed c 𝓜 𝓡 (Goes-spent_ref 𝓛 2 (0 ∷ []) tt (plain (λ _. S)), tt)
    (f.Key.name (inst T)) fn (code.unfolded 𝓤 H 𝓜 𝓡 wired (T, tt))
    (λ κs. (mut_vals, tt)) (λ κs. (mut_Tells (named 0) κs.0 S, tt)) (λ κs qs bounds a g are.
    let κ = κs.0 in let q = qs.0 in let self : MutBor S.Denot = a.0 in
    let b = self.ref_ptr.0 in let o = self.ref_ptr.1 in let γ = self.ghost_name in
    let y : W.Ghost = ((κs, qs, bounds, a, (mut_vals self, tt)), g) in let Post : Val → SProp 𝓤 = W.post y in
    qed 𝓛 (((‵ (flft κ q) ⊛ ‵ (flft κs.1.0 qs.1.0) ⊛ ‵ ftrue) ⊛ ‵ (owns (types_at ended.signature.params κs) a y.0.4))
    ∷ (raw (fact 𝓤 (κs.1.0 ⊑ T.lives)) ⊛ raw (fact 𝓤 (IsSome self.now))) ∷ []) ∵
    move ! (1 ∷ []) $ split ! $ drop ! $ heard ! _ (λ held. split ! $ split3 ! $ move ! (3 ∷ []) $
    fsplit ! $ fsplit3 ! $ keep ! (1 ∷ 2 ∷ 4 ∷ 5 ∷ []) $
    -- [self, in two parts; the token; the token of T]
    enter ! 𝓣.C 𝓣.Λ fn (W.args y) Post $
    alloc_all ! (λ l. pass_all ! refl ((tt, tt), tt) $
    let Ev = env fn.locals l in let found = held_item self.now held in let x = found.0 in let at = behind (layout T) o in
    first ! $ blocks ! $
    sets ! (addr ! (through ! refl (stop !))) refl (tt, tt) $
    sets ! (of_opd ! (get ! refl)) refl (tt, tt) $
    sets ! (bin ! (get ! refl) (align_word !) tt) refl (tt, tt) $
    sets ! (of_opd ! (get ! refl)) refl (tt, tt) $
    sets_last ! (addr ! (through ! refl (stop !))) refl (tt, tt) $
    exec ! 𝓣.C 𝓣.Λ Ev (after 1 fn.body) (at_ret Ev Post) $
    sets ! (of_opd ! (get ! refl)) refl (tt, tt) $
    open_ref ! tt (mem S) {b = b} {o = o} $
    rewrite ! 0 (λ (place : S.Denot). ‵ (part_at S full_share place b o)) found.1 refl $
    use1 𝓛 (‵ (part_at R full_share x b at) ⊛ raw (left T L 𝓛 x b o)) (item_apart T L 𝓛 x b o) $ split ! $
    move ! (2 ∷ 3 ∷ 4 ∷ 0 ∷ 1 ∷ []) $ group ! 5 $
    let rest = left T L 𝓛 x b o in let way = item_back T L 𝓛 x b o in
    use1 𝓛 (later (some (λ (δ : GName). raw (Part 𝓛 S R Some (named 0) κ q b o b at γ rest way x δ))))
    (lends_Part 𝓛 S R Some (named 0) κ q b o b at γ rest way (S.coded.code self.now) (S.coded.code self.now) x) $ await ! tt $ pick ! (λ δ.
    use1 𝓛 (‵ ((MutRef (named 0) κ R).own_val (record { ref_ptr = (b, at); ghost_name = δ; now = x }) (vptr b at ∷ [])) ⊛ ‵ (flft κ q) ⊛ ‵ (follows S R γ δ Some)) (id⊢ 𝓤 _) $
    split3 ! $
    -- [the reference to the item; the token; what the place ends as; the token of T]
    nothing ! $ move ! (4 ∷ 0 ∷ []) $ join ! $ move ! (2 ∷ 0 ∷ []) $ join ! $ nothing ! $ nothing ! $ fjoin ! $
    use0 𝓛 (raw (fact 𝓤 (self.now ≡ Some x))) (fact_i 𝓤 (self.now ≡ Some x) (emp 𝓤) found.1) $
    move ! (4 ∷ 0 ∷ []) $ join ! $
    returns ! (look_at ! 0 refl) $ free_all ! refl $ move ! (2 ∷ 1 ∷ 3 ∷ 0 ∷ []) $
    by ! (leaves 𝓛 ended stayed c y (vptr b at) (record { ref_ptr = (b, at); ghost_name = δ; now = x }) (tt, tt) (tt, tt))))))
