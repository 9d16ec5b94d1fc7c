-- `new` makes the struct around the item. Assumes `Logic`.
use Rattle.ix_tables.proofs.RawNames.{◌≡◌, List, [], ◌∷◌, Some, refl, sym, subst, proved_at, leaves, SProp, ent, emp, ftrue, flft}
use Rattle.ix_tables.proofs.RawNames.{Fn, inst_fn, Val, WpFn, fact, fact_i, tables, ‵, raw, ◌⊛◌, ◌$◌, ◌∵◌, !, qed, by, move, keep}
use Rattle.ix_tables.proofs.RawNames.{drop, use0, use1, split, fsplit, fjoin, agg, of_opd, and_then, no_more, returns, enter}
use Rattle.ix_tables.proofs.RawNames.{alloc_all, pass_all, free_all, look_at, get, sets, no, owns, plain, types_at, nothing, Stays}
use Rattle.ix_tables.proofs.RawNames.{stay_dropped, walk_of, Goes-dropped, one, lawful}
use Rattle.core.proofs.cell.Inside.{round, Good-round}
use Rattle.ix_tables.specs.contracts.cells.maybe_moved.MaybeMoved.new as f
use Rattle.ix_tables.proofs.MovedItems.{Moved, moved_made}
use Rattle.ix_tables.proofs.RawSteps.{P, τ, inst, E}
use Rattle.ix_tables.proofs.cells.maybe_moved.MaybeMoved.new.Statement.{statement}
use Rattle.ix_tables.proofs.cells.maybe_moved.MaybeMoved.new.Code as code

pub new_spec : {M : Type 1} → statement M
new_spec 𝓤 𝓛 𝓜 𝓡 wired T L =
    let H = 𝓛.H in let 𝓣 = tables 𝓤 H 𝓜 𝓡 𝓡.env in let fn : Fn = inst_fn (inst T) code.function in
    let ended = f.ended T in let c = f.clauses T 𝓛 𝓜.mem 𝓡.returns in
    let item = plain (λ _. P T) in
    let stayed : Stays ended.signature.params ended.kept = (stay_dropped item no, tt) in
    let W = walk_of 𝓛 ended stayed c in
    proved_at 𝓛 ended stayed c 𝓜 𝓡 (Goes-dropped 𝓛 1 item no (λ κs x w. refl), tt)
    (f.Key.name (inst T)) fn (code.unfolded 𝓤 H 𝓜 𝓡 wired (T, tt)) (λ z are.
    let κs = z.0.0 in let qs = z.0.1 in let a = z.0.3 in let x = a.0 in
    let got = one (E T L) z.0.4.0 ((lawful (E T L) 𝓛).typed x z.0.4.0 are.0) in let v : Val = got.0 in let good = got.2 in
    let At : List Val × Unit {0} → W.Ghost = λ vss. ((κs, qs, z.0.2, a, vss), z.1) in
    let y : W.Ghost = At (v ∷ [], tt) in let Post : Val → SProp 𝓤 = W.post y in
    subst (λ (vss : List Val × Unit {0}). ent 𝓤 (W.pre (At vss)) (WpFn 𝓤 H 𝓣.C 𝓣.Λ fn (W.args (At vss)) (W.post (At vss))))
    (λ j. (sym got.1 j, tt)) (
    qed 𝓛 (((‵ (flft κs.0 qs.0) ⊛ ‵ ftrue) ⊛ ‵ (owns (types_at ended.signature.params κs) a y.0.4))
    ∷ raw ((c κs a).requires z.1) ∷ []) ∵
    move ! (1 ∷ []) $ drop ! $ split ! $ move ! (1 ∷ []) $ fsplit ! $ move ! (1 ∷ []) $ drop ! $
    -- [the item; the token of T]
    enter ! 𝓣.C 𝓣.Λ fn (W.args y) Post $
    alloc_all ! (λ l. pass_all ! refl (good, tt) $
    sets ! (of_opd ! (get ! refl)) refl good $
    sets ! (agg ! (and_then ! (get ! refl) (no_more !))) refl (Good-round [] (τ T) v good) $
    returns ! (look_at ! 0 refl) $ free_all ! refl $
    use1 𝓛 (‵ ((Moved T).own_val (Some x) (round v ∷ []))) (moved_made T L 𝓛 x v good) $
    nothing ! $ nothing ! $ fjoin ! $ use0 𝓛 (raw (fact 𝓤 (Some x ≡ Some x))) (fact_i 𝓤 (Some x ≡ Some x) (emp 𝓤) refl) $
    keep ! (3 ∷ 1 ∷ 2 ∷ 0 ∷ []) $
    by ! (leaves 𝓛 ended stayed c y (round v) (Some x) (tt, tt) (tt, tt)))))
