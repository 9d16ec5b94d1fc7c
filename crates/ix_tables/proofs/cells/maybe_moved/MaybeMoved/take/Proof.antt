-- `take` moves the item out, and leaves its bytes. Assumes `Logic`.
use Rattle.ix_tables.proofs.RawNames.{◌≡◌, List, [], ◌∷◌, Some, None, refl, proved, leaves, full_share, SProp, emp, ftrue, fat, flft}
use Rattle.ix_tables.proofs.RawNames.{Fn, named, inst_fn, Val, ◌⊑◌, fact, fact_i, tables, ‵, raw, ◌⊛◌, some, given, at_ret}
use Rattle.ix_tables.proofs.RawNames.{◌$◌, ◌∵◌, !, qed, by, move, keep, drop, pick, learn, use0, use1, use2, split, split3, join, rewrite}
use Rattle.ix_tables.proofs.RawNames.{fsplit, fsplit3, fjoin, fjoin3, feq_i, stop, fld, addr, load, look, of_opd, first, blocks, exec}
use Rattle.ix_tables.proofs.RawNames.{returns, enter, alloc_all, pass_all, free_all, look_at, get, through, sets, sets_last, env}
use Rattle.ix_tables.proofs.RawNames.{mem, owns, MutBor, mut_vals, plain, types_at, nothing, heard, Stays, stay_ref, walk_of}
use Rattle.ix_tables.proofs.RawNames.{Goes-ref, after, Good}
use Rattle.std.specs.Prelude.{IsSome}
use types.Mut.{open_ref, close_ref}
use denote.Memory.{part_at}
use denote.Ref.{mut_Tells}
use Rattle.ix_tables.specs.contracts.cells.maybe_moved.MaybeMoved.take as f
use Rattle.ix_tables.proofs.MovedItems.{Moved, item_place, left, item_apart, item_gone}
use Rattle.ix_tables.proofs.Places.{held_item}
use Rattle.ix_tables.proofs.RawSteps.{τ, inst, E}
use Rattle.ix_tables.proofs.cells.maybe_moved.MaybeMoved.take.Statement.{statement}
use Rattle.ix_tables.proofs.cells.maybe_moved.MaybeMoved.take.Code as code

pub take_spec : {M : Type 1} → statement M
take_spec 𝓤 𝓛 𝓜 𝓡 wired T L =
    let H = 𝓛.H in let 𝓣 = tables 𝓤 H 𝓜 𝓡 𝓡.env in let fn : Fn = inst_fn (inst T) code.function in
    let ended = f.ended T in let c = f.clauses T 𝓛 𝓜.mem 𝓡.returns in let S = Moved T in
    let stayed : Stays ended.signature.params ended.kept = (stay_ref (0 ∷ []) tt (plain (λ _. S)), tt) in
    let W = walk_of 𝓛 ended stayed c in
    proved 𝓛 ended stayed c 𝓜 𝓡 (Goes-ref 𝓛 2 0 tt (plain (λ _. S)), tt)
    (f.Key.name (inst T)) fn (code.unfolded 𝓤 H 𝓜 𝓡 wired (T, tt))
    (λ κs. (mut_vals, tt)) (λ κs. (mut_Tells (named 0) κs.0 S, tt)) (λ κs qs bounds a g are.
    let self : MutBor S.Denot = a.0 in let b = self.ref_ptr.0 in let o = self.ref_ptr.1 in
    let y : W.Ghost = ((κs, qs, bounds, a, (mut_vals self, tt)), g) in let Post : Val → SProp 𝓤 = W.post y in
    qed 𝓛 (((‵ (flft κs.0 qs.0) ⊛ ‵ (flft κs.1.0 qs.1.0) ⊛ ‵ ftrue) ⊛ ‵ (owns (types_at ended.signature.params κs) a y.0.4))
    ∷ (raw (fact 𝓤 (κs.1.0 ⊑ T.lives)) ⊛ raw (fact 𝓤 (IsSome self.now))) ∷ []) ∵
    move ! (1 ∷ []) $ split ! $ drop ! $ heard ! _ (λ held. split ! $ split3 ! $ move ! (3 ∷ []) $
    fsplit ! $ fsplit3 ! $ keep ! (1 ∷ 2 ∷ 4 ∷ 5 ∷ []) $
    -- [self, in two parts; the token; the token of T]
    enter ! 𝓣.C 𝓣.Λ fn (W.args y) Post $
    alloc_all ! (λ l. pass_all ! refl ((tt, tt), tt) $
    let Ev = env fn.locals l in let found = held_item self.now held in let x = found.0 in let none : S.Denot = None in
    first ! $ blocks ! $
    sets ! (addr ! (through ! refl (fld ! refl (stop !)))) refl (tt, tt) $
    open_ref ! tt (mem S) {b = b} {o = o} $
    rewrite ! 0 (λ (item : S.Denot). ‵ (part_at S full_share item b o)) found.1 refl $
    use1 𝓛 (some (λ (v : Val). given (Good (E T L) v) (‵ (fat full_share (τ T) b (item_place T o) v) ⊛ (‵ (T.own_val x (v ∷ [])) ⊛ raw (left T L 𝓛 b o))))) (item_apart T L 𝓛 b o x) $
    pick ! (λ v. learn ! (λ good. split3 ! $
    -- [the item's place; the item; what is left; the open borrow, in three parts; the token of T]
    sets_last ! (of_opd ! (load ! (through ! refl (stop !)) (look ! 0 refl))) refl good $
    exec ! 𝓣.C 𝓣.Λ Ev (after 1 fn.body) (at_ret Ev Post) $ sets ! (of_opd ! (get ! refl)) refl good $
    move ! (0 ∷ 2 ∷ []) $ use2 𝓛 (‵ (part_at S full_share none b o)) (item_gone T L 𝓛 b o v good) $
    move ! (0 ∷ 2 ∷ 3 ∷ 4 ∷ []) $ close_ref ! tt (mem S) none $
    -- [self, in two parts; the token; the item; the token of T]
    returns ! (look_at ! 0 refl) $ free_all ! refl $
    keep ! (0 ∷ 1 ∷ 2 ∷ 3 ∷ 4 ∷ []) $ nothing ! $ move ! (5 ∷ 0 ∷ []) $ join ! $ move ! (3 ∷ 0 ∷ []) $ join ! $
    move ! (1 ∷ 2 ∷ []) $
    feq_i ! (List Val) (mut_vals self) (mut_vals self) refl $ fjoin3 ! $ nothing ! $ move ! (1 ∷ 0 ∷ []) $ fjoin ! $
    use0 𝓛 (raw (fact 𝓤 (none ≡ none))) (fact_i 𝓤 (none ≡ none) (emp 𝓤) refl) $
    use0 𝓛 (raw (fact 𝓤 (self.now ≡ Some x))) (fact_i 𝓤 (self.now ≡ Some x) (emp 𝓤) found.1) $
    join ! $ move ! (2 ∷ 1 ∷ 3 ∷ 0 ∷ []) $
    by ! (leaves 𝓛 ended stayed c y v x (none, tt) (tt, tt)))))))
