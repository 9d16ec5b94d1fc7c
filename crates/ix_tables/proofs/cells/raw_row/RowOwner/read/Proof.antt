-- `read` moves the item out of its place, which is empty then. Assumes `Logic`.
use Rattle.ix_tables.proofs.RawNames.{◌≡◌, ℕ, ◌+◌, ◌*◌, ◌^◌, ◌<◌, List, [], ◌∷◌, length, length-set, get_or, set, Some, None}
use Rattle.ix_tables.proofs.RawNames.{refl, sym, subst, ◌∙◌, proved_at, leaves, full_share, SProp, ent, emp, never, id⊢, ftrue}
use Rattle.ix_tables.proofs.RawNames.{fat, froom, flft, Fn, w64, inst_fn, Val, vint, WpFn, ◌⊑◌, fact, fact_i, tables, ‵, raw}
use Rattle.ix_tables.proofs.RawNames.{◌⊛◌, some, given, at_ret, ◌$◌, ◌∵◌, !, qed, by, move, keep, drop, pick, learn, use0, use1}
use Rattle.ix_tables.proofs.RawNames.{use2, split, split3, join, rewrite, fsplit, fsplit3, fjoin, fjoin3, feq_i, flt_l, flt_i}
use Rattle.ix_tables.proofs.RawNames.{whole, sub, stop, fld, load, look, of_opd, bin, size_lit, first, blocks, exec, returns}
use Rattle.ix_tables.proofs.RawNames.{enter, alloc_all, pass_all, free_all, look_at, get, get_in, through, sets, sets_last}
use Rattle.ix_tables.proofs.RawNames.{take_at, give_at, env, usize, yes, no, layout, param_laws, owns, Ptr, in_a_block, mut_vals}
use Rattle.ix_tables.proofs.RawNames.{plain, types_at, nothing, heard, opens, closes, Stays, stay_dropped, stay_ref, walk_of}
use Rattle.ix_tables.proofs.RawNames.{Goes-dropped, Goes-ref, after, word, word-Good, as_raw, Good}
use Rattle.ix_tables.specs.Places.{IsHeldAt}
use Rattle.ix_tables.specs.inner.RawMemory.{place_owns, places_own, row_owns}
use Rattle.ix_tables.specs.inner.RawRows.{with_places}
use Rattle.ix_tables.specs.contracts.cells.raw_row.RowOwner.read as f
use Rattle.ix_tables.proofs.Places.{held_item, held_within}
use Rattle.ix_tables.proofs.RawSteps.{P, τ, inst, s, Place, Owner, Start, E, offset_fits, others}
use Rattle.ix_tables.proofs.RawSteps.{place_out, place_in, item_out}
use Rattle.ix_tables.proofs.cells.raw_row.RowPtr.TheLaws.{lowers as start_lowers}
use Rattle.ix_tables.proofs.cells.raw_row.RowOwner.read.Statement.{statement}
use Rattle.ix_tables.proofs.cells.raw_row.RowOwner.read.Code as code

pub read_spec : {M : Type 1} → statement M
read_spec 𝓤 𝓛 𝓜 𝓡 wired T L =
    let H = 𝓛.H in let 𝓣 = tables 𝓤 H 𝓜 𝓡 𝓡.env in let fn : Fn = inst_fn (inst T) code.function in
    let ended = f.ended T in let c = f.clauses T 𝓛 𝓜.mem 𝓡.returns in
    let start = plain (λ _. Start T) in let index = plain (λ _. usize) in
    let stayed : Stays ended.signature.params ended.kept = (stay_ref (0 ∷ []) tt (plain (λ _. Owner T)), (stay_dropped start no, (stay_dropped index yes, tt))) in
    let W = walk_of 𝓛 ended stayed c in
    proved_at 𝓛 ended stayed c 𝓜 𝓡
    (Goes-ref 𝓛 2 0 tt (plain (λ _. Owner T)), (Goes-dropped 𝓛 2 start no (λ κs x w. refl), (Goes-dropped 𝓛 2 index yes (λ κs x w. refl), tt)))
    (f.Key.name (inst T)) fn (code.unfolded 𝓤 H 𝓜 𝓡 wired (T, tt)) (λ z are.
    let κs = z.0.0 in let qs = z.0.1 in let a = z.0.3 in let self = a.0 in let d = self.now in let p : Ptr = a.1.0.start in
    let i : ℕ = a.1.1.0 in
    let rb = self.ref_ptr.0 in let ro = self.ref_ptr.1 in
    let At : List Val × (List Val × (List Val × Unit {0})) → W.Ghost = λ vss. ((κs, qs, z.0.2, a, vss), z.1) in
    let y : W.Ghost = At (mut_vals self, (word p ∷ [], (vint w64 i ∷ [], tt))) in let Post : Val → SProp 𝓤 = W.post y in
    let new = with_places d (set d.places i None) in
    subst (λ (vss : List Val × (List Val × (List Val × Unit {0}))). ent 𝓤 (W.pre (At vss)) (WpFn 𝓤 H 𝓣.C 𝓣.Λ fn (W.args (At vss)) (W.post (At vss))))
    (λ j. (sym are.0.0 j, (sym ((start_lowers (P T) (param_laws 0 T L)).val_is a.1.0 z.0.4.1.0 are.1.0) j, (sym are.1.1.0.0 j, tt)))) (
    qed 𝓛 (((‵ (flft κs.0 qs.0) ⊛ ‵ (flft κs.1.0 qs.1.0) ⊛ ‵ ftrue) ⊛ ‵ (owns (types_at ended.signature.params κs) a y.0.4))
    ∷ (raw (fact 𝓤 (κs.1.0 ⊑ T.lives)) ⊛ raw (fact 𝓤 (p ≡ d.start)) ⊛ raw (fact 𝓤 (IsHeldAt d.places i))) ∷ []) ∵
    move ! (1 ∷ []) $ split3 ! $ drop ! $ heard ! _ (λ same. heard ! _ (λ held. split ! $ split3 ! $ move ! (3 ∷ []) $
    fsplit ! $ fsplit3 ! $ keep ! (1 ∷ 2 ∷ 4 ∷ 5 ∷ []) $
    -- [self, in two parts; the token; the token of T]
    enter ! 𝓣.C 𝓣.Λ fn (W.args y) Post $
    alloc_all ! (λ l. pass_all ! refl ((tt, tt), (word-Good [] p, ((tt, record { fits = are.1.1.0.1 }), tt))) $
    let Ev = env fn.locals l in let found = held_item (get_or d.places i None) held in let x = found.0 in
    let within = held_within d.places i held in
    opens ! tt (Owner T) {h = d} rb ro (λ vs. move ! (1 ∷ []) $ fsplit ! $ move ! (1 ∷ []) $
    in_a_block ! d.start (λ q. row_owns (P T) q d.places) (id⊢ 𝓤 (never 𝓤)) (λ b o e. fsplit ! $ flt_l ! (λ small.
    let fits = offset_fits i (length d.places) (s T) within small in let at = i * s T + o in
    take_at ! 2 $ rewrite ! 0 (λ (q : Ptr). ‵ (fat full_share (layout (Start T)) (l 2) 0 (word q))) (same ∙ e) refl $
    give_at ! 2 $ first ! $ blocks ! $
    sets ! (bin ! (get ! refl) (size_lit ! (record { fits = fits.1 })) (record { fits = fits.0 })) refl (tt, record { fits = fits.0 }) $
    sets ! (bin ! (get_in ! (fld ! refl (stop !)) (sub ! 0 refl (whole !))) (get ! refl) tt) refl (tt, tt) $
    use1 𝓛 (‵ (place_owns (P T) b at (get_or d.places i None)) ⊛ ‵ (others T 𝓛 b o d.places i)) (place_out T 𝓛 b o d.places i within) $
    split ! $
    rewrite ! 0 (λ (place : Place T). ‵ (place_owns (P T) b at place)) found.1 refl $
    use1 𝓛 (some (λ (v : Val). given (Good (E T L) v) (‵ (fat full_share (τ T) b at v) ⊛ ‵ (T.own_val x (v ∷ []))))) (item_out T L 𝓛 x b at) $
    pick ! (λ v. learn ! (λ good. split ! $
    -- [the place; the item; the other places; the mark; its cell; the open borrow, in three parts; the token of T]
    sets_last ! (of_opd ! (load ! (through ! refl (stop !)) (look ! 0 refl))) refl good $
    exec ! 𝓣.C 𝓣.Λ Ev (after 1 fn.body) (at_ret Ev Post) $ sets ! (of_opd ! (get ! refl)) refl good $
    use1 𝓛 (‵ (froom (τ T) b at)) (𝓛.laws.at_room (τ T) b at v) $ as_raw ! (τ T) b at $ move ! (0 ∷ 2 ∷ []) $
    use2 𝓛 (‵ (places_own (P T) b o new.places)) (place_in T 𝓛 b o d.places i within None) $
    flt_i ! (length new.places * s T) (2 ^ 63) (subst (λ k. k * s T < 2 ^ 63) (sym (length-set d.places i None)) small) $
    fjoin ! $
    rewrite ! 0 (λ (q : Ptr). ‵ (row_owns (P T) q new.places)) (sym e) refl $ move ! (2 ∷ 0 ∷ []) $ fjoin ! $
    move ! (2 ∷ 0 ∷ 3 ∷ 4 ∷ 5 ∷ []) $ closes ! tt (Owner T) new vs rb ro $
    -- [self, in two parts; the token; the item; the token of T]
    returns ! (look_at ! 0 refl) $ free_all ! refl $
    keep ! (0 ∷ 1 ∷ 2 ∷ 3 ∷ 4 ∷ []) $ nothing ! $ move ! (5 ∷ 0 ∷ []) $ join ! $ move ! (3 ∷ 0 ∷ []) $ join ! $
    move ! (1 ∷ 2 ∷ []) $
    feq_i ! (List Val) (mut_vals self) (mut_vals self) refl $ fjoin3 ! $ nothing ! $ nothing ! $ fjoin ! $ nothing ! $ fjoin ! $
    move ! (1 ∷ 0 ∷ []) $ fjoin ! $
    use0 𝓛 (raw (fact 𝓤 (new ≡ new))) (fact_i 𝓤 (new ≡ new) (emp 𝓤) refl) $
    use0 𝓛 (raw (fact 𝓤 (get_or d.places i None ≡ Some x))) (fact_i 𝓤 (get_or d.places i None ≡ Some x) (emp 𝓤) found.1) $
    join ! $ move ! (2 ∷ 1 ∷ 3 ∷ 0 ∷ []) $
    by ! (leaves 𝓛 ended stayed c y v x (new, (tt, (tt, tt))) (tt, (tt, (tt, tt))))))))))))))
