-- `get_mut` lends the item, which stays. Assumes `Logic`.
use Rattle.ix_tables.proofs.RawNames.{◌≡◌, [], ◌∷◌, Some, refl, proved, leaves, full_share, SProp, emp, id⊢, GName, ftrue, flft}
use Rattle.ix_tables.proofs.RawNames.{Fn, named, inst_fn, Val, vptr, ◌⊑◌, fact, fact_i, tables, ‵, raw, ◌⊛◌, some, given, later}
use Rattle.ix_tables.proofs.RawNames.{◌$◌, ◌∵◌, !, qed, by, move, keep, drop, pick, learn, await, use0, use1, use2, split, split3, join}
use Rattle.ix_tables.proofs.RawNames.{group, rewrite, fsplit, fsplit3, fjoin, stop, fld, addr, returns, enter, alloc_all, pass_all}
use Rattle.ix_tables.proofs.RawNames.{free_all, look_at, through, sets, no, mem, fat, owns, MutBor, MutRef, mut_vals, plain, types_at}
use Rattle.ix_tables.proofs.RawNames.{mut_ref_to, nothing, heard, Stays, stay_dropped, walk_of, Goes-spent_ref, Good}
use Rattle.std.specs.Prelude.{IsSome}
use types.Mut.{open_ref}
use denote.Follow.{follows, Part, lends_Part}
use denote.Memory.{part_at}
use denote.Ref.{mut_Tells}
use Rattle.ix_tables.specs.contracts.cells.maybe_moved.MaybeMoved.get_mut as f
use Rattle.ix_tables.proofs.MovedItems.{Moved, item_place, left, item_apart, item_back}
use Rattle.ix_tables.proofs.Places.{held_item}
use Rattle.ix_tables.proofs.RawSteps.{P, τ, inst, E, item_in}
use Rattle.ix_tables.proofs.cells.maybe_moved.MaybeMoved.get_mut.Statement.{statement}
use Rattle.ix_tables.proofs.cells.maybe_moved.MaybeMoved.get_mut.Code as code

pub get_mut_spec : {M : Type 1} → statement M
get_mut_spec 𝓤 𝓛 𝓜 𝓡 wired T L =
    let H = 𝓛.H in let 𝓣 = tables 𝓤 H 𝓜 𝓡 𝓡.env in let fn : Fn = inst_fn (inst T) code.function in
    let ended = f.ended T in let c = f.clauses T 𝓛 𝓜.mem 𝓡.returns in let S = Moved T in let R = P T in
    let lent = mut_ref_to (0 ∷ []) tt (plain (λ _. S)) in
    let stayed : Stays ended.signature.params ended.kept = (stay_dropped lent no, tt) in
    let W = walk_of 𝓛 ended stayed c in
    proved 𝓛 ended stayed c 𝓜 𝓡 (Goes-spent_ref 𝓛 2 (0 ∷ []) tt (plain (λ _. S)), tt)
    (f.Key.name (inst T)) fn (code.unfolded 𝓤 H 𝓜 𝓡 wired (T, tt))
    (λ κs. (mut_vals, tt)) (λ κs. (mut_Tells (named 0) κs.0 S, tt)) (λ κs qs bounds a g are.
    let κ = κs.0 in let q = qs.0 in let self : MutBor S.Denot = a.0 in
    let b = self.ref_ptr.0 in let o = self.ref_ptr.1 in let γ = self.ghost_name in let at = item_place T o in
    let y : W.Ghost = ((κs, qs, bounds, a, (mut_vals self, tt)), g) in let Post : Val → SProp 𝓤 = W.post y in
    qed 𝓛 (((‵ (flft κ q) ⊛ ‵ (flft κs.1.0 qs.1.0) ⊛ ‵ ftrue) ⊛ ‵ (owns (types_at ended.signature.params κs) a y.0.4))
    ∷ (raw (fact 𝓤 (κs.1.0 ⊑ T.lives)) ⊛ raw (fact 𝓤 (IsSome self.now))) ∷ []) ∵
    move ! (1 ∷ []) $ split ! $ drop ! $ heard ! _ (λ held. split ! $ split3 ! $ move ! (3 ∷ []) $
    fsplit ! $ fsplit3 ! $ keep ! (1 ∷ 2 ∷ 4 ∷ 5 ∷ []) $
    -- [self, in two parts; the token; the token of T]
    enter ! 𝓣.C 𝓣.Λ fn (W.args y) Post $
    alloc_all ! (λ l. pass_all ! refl ((tt, tt), tt) $
    let found = held_item self.now held in let x = found.0 in
    sets ! (addr ! (through ! refl (fld ! refl (stop !)))) refl (tt, tt) $
    open_ref ! tt (mem S) {b = b} {o = o} $
    rewrite ! 0 (λ (item : S.Denot). ‵ (part_at S full_share item b o)) found.1 refl $
    use1 𝓛 (some (λ (v : Val). given (Good (E T L) v) (‵ (fat full_share (τ T) b at v) ⊛ (‵ (T.own_val x (v ∷ [])) ⊛ raw (left T L 𝓛 b o))))) (item_apart T L 𝓛 b o x) $
    pick ! (λ v. learn ! (λ _. split3 ! $ use2 𝓛 (‵ (part_at R full_share x b at)) (item_in T L 𝓛 x b at v) $
    move ! (2 ∷ 3 ∷ 4 ∷ 0 ∷ 1 ∷ []) $ group ! 5 $
    let rest = left T L 𝓛 b o in let way = item_back T L 𝓛 b o in
    use1 𝓛 (later (some (λ (δ : GName). raw (Part 𝓛 S R Some (named 0) κ q b o b at γ rest way x δ))))
    (lends_Part 𝓛 S R Some (named 0) κ q b o b at γ rest way (S.coded.code self.now) (S.coded.code self.now) x) $ await ! tt $ pick ! (λ δ.
    use1 𝓛 (‵ ((MutRef (named 0) κ R).own_val (record { ref_ptr = (b, at); ghost_name = δ; now = x }) (vptr b at ∷ [])) ⊛ ‵ (flft κ q) ⊛ ‵ (follows S R γ δ Some)) (id⊢ 𝓤 _) $
    split3 ! $
    -- [the reference to the item; the token; what the struct ends as; the token of T]
    nothing ! $ move ! (4 ∷ 0 ∷ []) $ join ! $ move ! (2 ∷ 0 ∷ []) $ join ! $ nothing ! $ nothing ! $ fjoin ! $
    use0 𝓛 (raw (fact 𝓤 (self.now ≡ Some x))) (fact_i 𝓤 (self.now ≡ Some x) (emp 𝓤) found.1) $
    move ! (4 ∷ 0 ∷ []) $ join ! $
    returns ! (look_at ! 0 refl) $ free_all ! refl $ move ! (2 ∷ 1 ∷ 3 ∷ 0 ∷ []) $
    by ! (leaves 𝓛 ended stayed c y (vptr b at) (record { ref_ptr = (b, at); ghost_name = δ; now = x }) (tt, tt) (tt, tt))))))))
