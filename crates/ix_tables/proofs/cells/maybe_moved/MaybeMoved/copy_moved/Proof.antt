-- `copy_moved` reads the bytes, which own nothing. Assumes `Logic`.
use Rattle.ix_tables.proofs.RawNames.{◌≡◌, [], ◌∷◌, None, refl, proved, leaves, SProp, emp, ftrue, fat, flft, Fn, named, inst_fn, Val}
use Rattle.ix_tables.proofs.RawNames.{◌⊑◌, fact, fact_i, tables, ‵, raw, ◌⊛◌, some, given, at_ret, ◌$◌, ◌∵◌, !, qed, by, move, keep, drop, pick, learn, use0, use1}
use Rattle.ix_tables.proofs.RawNames.{split, split3, join, rewrite, fsplit, fjoin, fpack, stop, addr, load, look, of_opd, first, blocks, exec, returns, enter, alloc_all, pass_all}
use Rattle.ix_tables.proofs.RawNames.{free_all, look_at, get, through, sets, sets_last, env, RefOf, yes, unhide, owns, shr_vals, shr_Tells, plain}
use Rattle.ix_tables.proofs.RawNames.{types_at, nothing, heard, Stays, stay_dropped, walk_of, Goes-dropped, after}
use denote.Laws.{Typed}
use denote.Ref.{Bor}
use types.Tokens.{shr_bor-open, obor_close}
use Rattle.core.proofs.cell.Inside.{Good}
use Rattle.ix_tables.specs.contracts.cells.maybe_moved.MaybeMoved.copy_moved as f
use Rattle.ix_tables.proofs.MovedItems.{Moved, moved_type, Bytes, bytes_out, bytes_in, bytes_halves}
use Rattle.ix_tables.proofs.RawSteps.{inst}
use Rattle.ix_tables.proofs.cells.maybe_moved.MaybeMoved.copy_moved.Statement.{statement}
use Rattle.ix_tables.proofs.cells.maybe_moved.MaybeMoved.copy_moved.Code as code

pub copy_moved_spec : {M : Type 1} → statement M
copy_moved_spec 𝓤 𝓛 𝓜 𝓡 wired T L =
    let H = 𝓛.H in let 𝓣 = tables 𝓤 H 𝓜 𝓡 𝓡.env in let fn : Fn = inst_fn (inst T) code.function in
    let ended = f.ended T in let c = f.clauses T 𝓛 𝓜.mem 𝓡.returns in let S = Moved T in
    let lent = RefOf (0 ∷ []) tt (plain (λ _. S)) (λ _. tt) in
    let stayed : Stays ended.signature.params ended.kept = (stay_dropped lent yes, tt) in
    let W = walk_of 𝓛 ended stayed c in
    proved 𝓛 ended stayed c 𝓜 𝓡 (Goes-dropped 𝓛 2 lent yes (λ κs x w. refl), tt)
    (f.Key.name (inst T)) fn (code.unfolded 𝓤 H 𝓜 𝓡 wired (T, tt))
    (λ κs. (shr_vals, tt)) (λ κs. (shr_Tells (named 0) κs.0 S, tt)) (λ κs qs bounds a g are.
    let κ = κs.0 in let self : Bor S.Denot = a.0 in let b = self.ref_ptr.0 in let o = self.ref_ptr.1 in
    let y : W.Ghost = ((κs, qs, bounds, a, (shr_vals self, tt)), g) in let Post : Val → SProp 𝓤 = W.post y in
    let none : S.Denot = None in
    qed 𝓛 (((‵ (flft κ qs.0) ⊛ ‵ (flft κs.1.0 qs.1.0) ⊛ ‵ ftrue) ⊛ ‵ (owns (types_at ended.signature.params κs) a y.0.4))
    ∷ (raw (fact 𝓤 (κs.1.0 ⊑ T.lives)) ⊛ raw (fact 𝓤 (self.now ≡ None))) ∷ []) ∵
    move ! (1 ∷ []) $ split ! $ drop ! $ heard ! _ (λ gone. split ! $ move ! (1 ∷ []) $ fsplit ! $ fsplit ! $ keep ! (1 ∷ 3 ∷ []) $
    unhide ! $ rewrite ! 0 (λ (item : S.Denot). ‵ (S.shr_at item b o κ)) gone refl $
    move ! (1 ∷ []) $ split3 ! $ keep ! (3 ∷ 0 ∷ 1 ∷ []) $
    -- [what the bytes lend; the token; the token of T]
    enter ! 𝓣.C 𝓣.Λ fn (W.args y) Post $
    alloc_all ! (λ l. pass_all ! refl ((tt, tt), tt) $
    let Ev = env fn.locals l in
    first ! $ blocks ! $
    sets ! (addr ! (through ! refl (stop !))) refl (tt, tt) $
    shr_bor-open ! tt (bytes_halves T L 𝓛 b o 𝓜) (λ q. move ! (1 ∷ []) $
    use1 𝓛 (some (λ (w : Val). given (Good (moved_type T) w) (‵ (fat q (moved_type T) b o w)))) (bytes_out T L 𝓛 b o q) $
    pick ! (λ w. learn ! (λ good.
    -- [the bytes; the open borrow; the token of T]
    sets_last ! (of_opd ! (load ! (through ! refl (stop !)) (look ! 0 refl))) refl good $
    exec ! 𝓣.C 𝓣.Λ Ev (after 1 fn.body) (at_ret Ev Post) $ sets ! (of_opd ! (get ! refl)) refl good $
    use1 𝓛 (‵ (Bytes T L 𝓛 b o q)) (bytes_in T L 𝓛 b o q w) $ move ! (1 ∷ 0 ∷ []) $ obor_close ! tt $ drop ! $
    -- [the token; the token of T]
    nothing ! $ nothing ! $ fpack ! (Typed S.mir (w ∷ [])) (λ _. ftrue) (good, tt) $ fjoin ! $
    returns ! (look_at ! 0 refl) $ free_all ! refl $
    nothing ! $ move ! (3 ∷ 0 ∷ []) $ join ! $ move ! (2 ∷ 0 ∷ []) $ join ! $
    nothing ! $ nothing ! $ fjoin ! $ use0 𝓛 (raw (fact 𝓤 (none ≡ none))) (fact_i 𝓤 (none ≡ none) (emp 𝓤) refl) $
    move ! (2 ∷ 1 ∷ 3 ∷ 0 ∷ []) $
    by ! (leaves 𝓛 ended stayed c y w none (tt, tt) (tt, tt))))))))
