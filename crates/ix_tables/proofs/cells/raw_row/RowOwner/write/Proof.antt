-- `write` fills an empty place. Assumes `Logic`.
use Rattle.ix_tables.proofs.RawNames.{◌≡◌, ℕ, ◌+◌, ◌*◌, ◌^◌, ◌<◌, List, [], ◌∷◌, length, length-set, get_or, set, Some, None}
use Rattle.ix_tables.proofs.RawNames.{refl, sym, subst, ◌∙◌, proved_at, leaves, full_share, SProp, ent, emp, never, id⊢, ftrue}
use Rattle.ix_tables.proofs.RawNames.{fat, flft, Fn, w64, inst_fn, Val, vint, vunit, WpFn, ◌⊑◌, fact, fact_i, tables, ‵, raw}
use Rattle.ix_tables.proofs.RawNames.{◌⊛◌, at_ret, ◌$◌, ◌∵◌, !, qed, by, move, keep, drop, use0, use1, use2, split, split3, join}
use Rattle.ix_tables.proofs.RawNames.{rewrite, fsplit, fsplit3, fjoin, fjoin3, feq_i, flt_l, flt_i, whole, sub, stop, fld, init}
use Rattle.ix_tables.proofs.RawNames.{unit_lit, of_opd, bin, size_lit, assigns_last, first, blocks, exec, returns, enter}
use Rattle.ix_tables.proofs.RawNames.{alloc_all, pass_all, free_all, look_at, get, get_in, through, sets, take_at, give_at, env}
use Rattle.ix_tables.proofs.RawNames.{usize, yes, no, layout, param_laws, owns, Ptr, in_a_block, mut_vals, plain, types_at}
use Rattle.ix_tables.proofs.RawNames.{nothing, heard, opens, closes, Stays, stay_dropped, stay_ref, walk_of, Goes-dropped}
use Rattle.ix_tables.proofs.RawNames.{Goes-ref, after, word, word-Good, as_written, one, lawful}
use Rattle.ix_tables.specs.Places.{IsEmptyAt}
use Rattle.ix_tables.specs.inner.RawMemory.{place_owns, places_own, row_owns}
use Rattle.ix_tables.specs.inner.RawRows.{with_places}
use Rattle.ix_tables.specs.contracts.cells.raw_row.RowOwner.write as f
use Rattle.ix_tables.proofs.RawSteps.{P, τ, inst, s, Place, Owner, Start, E, offset_fits, others, place_out, place_in, item_in}
use Rattle.ix_tables.proofs.cells.raw_row.RowPtr.TheLaws.{lowers as start_lowers}
use Rattle.ix_tables.proofs.cells.raw_row.RowOwner.write.Statement.{statement}
use Rattle.ix_tables.proofs.cells.raw_row.RowOwner.write.Code as code

pub write_spec : {M : Type 1} → statement M
write_spec 𝓤 𝓛 𝓜 𝓡 wired T L =
    let H = 𝓛.H in let 𝓣 = tables 𝓤 H 𝓜 𝓡 𝓡.env in let fn : Fn = inst_fn (inst T) code.function in
    let ended = f.ended T in let c = f.clauses T 𝓛 𝓜.mem 𝓡.returns in
    let start = plain (λ _. Start T) in let index = plain (λ _. usize) in let value = plain (λ _. P T) in
    let stayed : Stays ended.signature.params ended.kept =
    (stay_ref (0 ∷ []) tt (plain (λ _. Owner T)), (stay_dropped start no, (stay_dropped index yes, (stay_dropped value no, tt)))) in
    let W = walk_of 𝓛 ended stayed c in
    proved_at 𝓛 ended stayed c 𝓜 𝓡
    (Goes-ref 𝓛 2 0 tt (plain (λ _. Owner T)), (Goes-dropped 𝓛 2 start no (λ κs x w. refl), (Goes-dropped 𝓛 2 index yes (λ κs x w. refl), (Goes-dropped 𝓛 2 value no (λ κs x w. refl), tt))))
    (f.Key.name (inst T)) fn (code.unfolded 𝓤 H 𝓜 𝓡 wired (T, tt)) (λ z are.
    let κs = z.0.0 in let qs = z.0.1 in let a = z.0.3 in let self = a.0 in let d = self.now in let p : Ptr = a.1.0.start in
    let i : ℕ = a.1.1.0 in let x = a.1.1.1.0 in
    let rb = self.ref_ptr.0 in let ro = self.ref_ptr.1 in
    let got = one (E T L) z.0.4.1.1.1.0 ((lawful (E T L) 𝓛).typed x z.0.4.1.1.1.0 are.1.1.1.0) in let v : Val = got.0 in
    let good = got.2 in
    let At : List Val × (List Val × (List Val × (List Val × Unit {0}))) → W.Ghost = λ vss. ((κs, qs, z.0.2, a, vss), z.1) in
    let y : W.Ghost = At (mut_vals self, (word p ∷ [], (vint w64 i ∷ [], (v ∷ [], tt)))) in
    let Post : Val → SProp 𝓤 = W.post y in
    let new = with_places d (set d.places i (Some x)) in
    subst (λ (vss : List Val × (List Val × (List Val × (List Val × Unit {0})))). ent 𝓤 (W.pre (At vss)) (WpFn 𝓤 H 𝓣.C 𝓣.Λ fn (W.args (At vss)) (W.post (At vss))))
    (λ j. (sym are.0.0 j, (sym ((start_lowers (P T) (param_laws 0 T L)).val_is a.1.0 z.0.4.1.0 are.1.0) j, (sym are.1.1.0.0 j, (sym got.1 j, tt))))) (
    qed 𝓛 (((‵ (flft κs.0 qs.0) ⊛ ‵ (flft κs.1.0 qs.1.0) ⊛ ‵ ftrue) ⊛ ‵ (owns (types_at ended.signature.params κs) a y.0.4))
    ∷ (raw (fact 𝓤 (κs.1.0 ⊑ T.lives)) ⊛ raw (fact 𝓤 (p ≡ d.start)) ⊛ raw (fact 𝓤 (IsEmptyAt d.places i))) ∷ []) ∵
    move ! (1 ∷ []) $ split3 ! $ drop ! $ heard ! _ (λ same. heard ! _ (λ empty. split ! $ split3 ! $ move ! (3 ∷ []) $
    fsplit ! $ move ! (1 ∷ []) $ fsplit ! $ drop ! $ fsplit ! $ drop ! $ fsplit ! $ move ! (2 ∷ []) $ fsplit3 ! $
    keep ! (1 ∷ 2 ∷ 5 ∷ 3 ∷ 6 ∷ []) $
    -- [self, in two parts; the token; the item; the token of T]
    enter ! 𝓣.C 𝓣.Λ fn (W.args y) Post $
    alloc_all ! (λ l. pass_all ! refl ((tt, tt), (word-Good [] p, ((tt, record { fits = are.1.1.0.1 }), (good, tt)))) $
    let Ev = env fn.locals l in
    opens ! tt (Owner T) {h = d} rb ro (λ vs. move ! (1 ∷ []) $ fsplit ! $ move ! (1 ∷ []) $
    in_a_block ! d.start (λ q. row_owns (P T) q d.places) (id⊢ 𝓤 (never 𝓤)) (λ b o e. fsplit ! $ flt_l ! (λ small.
    let fits = offset_fits i (length d.places) (s T) empty.0 small in
    take_at ! 2 $ rewrite ! 0 (λ (q : Ptr). ‵ (fat full_share (layout (Start T)) (l 2) 0 (word q))) (same ∙ e) refl $
    give_at ! 2 $ first ! $ blocks ! $
    sets ! (bin ! (get ! refl) (size_lit ! (record { fits = fits.1 })) (record { fits = fits.0 })) refl (tt, record { fits = fits.0 }) $
    sets ! (bin ! (get_in ! (fld ! refl (stop !)) (sub ! 0 refl (whole !))) (get ! refl) tt) refl (tt, tt) $
    use1 𝓛 (‵ (place_owns (P T) b (i * s T + o) (get_or d.places i None)) ⊛ ‵ (others T 𝓛 b o d.places i)) (place_out T 𝓛 b o d.places i empty.0) $
    split ! $
    rewrite ! 0 (λ (place : Place T). ‵ (place_owns (P T) b (i * s T + o) place)) empty.1 refl $
    as_written ! (τ T) b (i * s T + o) $
    -- [the room; the other places; the mark; its cell; the open borrow, in three parts; the item; the token of T]
    sets ! (of_opd ! (get ! refl)) refl good $
    assigns_last ! (of_opd ! (get ! refl)) (through ! refl (stop !)) (init ! 0 refl good) $
    exec ! 𝓣.C 𝓣.Λ Ev (after 1 fn.body) (at_ret Ev Post) $ sets ! (of_opd ! (unit_lit !)) refl (tt, tt) $
    move ! (0 ∷ 7 ∷ []) $ use2 𝓛 (‵ (place_owns (P T) b (i * s T + o) (Some x))) (item_in T L 𝓛 x b (i * s T + o) v) $
    use2 𝓛 (‵ (places_own (P T) b o new.places)) (place_in T 𝓛 b o d.places i empty.0 (Some x)) $
    flt_i ! (length new.places * s T) (2 ^ 63) (subst (λ k. k * s T < 2 ^ 63) (sym (length-set d.places i (Some x))) small) $
    fjoin ! $
    rewrite ! 0 (λ (q : Ptr). ‵ (row_owns (P T) q new.places)) (sym e) refl $ move ! (1 ∷ 0 ∷ []) $ fjoin ! $
    move ! (1 ∷ 0 ∷ []) $ closes ! tt (Owner T) new vs rb ro $
    -- [self, in two parts; the token; the token of T]
    returns ! (look_at ! 0 refl) $ free_all ! refl $
    keep ! (0 ∷ 1 ∷ 2 ∷ 3 ∷ []) $ nothing ! $ move ! (4 ∷ 0 ∷ []) $ join ! $ move ! (3 ∷ 0 ∷ []) $ join ! $
    move ! (1 ∷ 2 ∷ []) $
    feq_i ! (List Val) (mut_vals self) (mut_vals self) refl $ fjoin3 ! $ nothing ! $ nothing ! $ fjoin ! $ nothing ! $ fjoin ! $
    nothing ! $ fjoin ! $ move ! (1 ∷ 0 ∷ []) $ fjoin ! $
    feq_i ! (List Val) (vunit ∷ []) (vunit ∷ []) refl $ use0 𝓛 (raw (fact 𝓤 (new ≡ new))) (fact_i 𝓤 (new ≡ new) (emp 𝓤) refl) $
    move ! (3 ∷ 2 ∷ 1 ∷ 0 ∷ []) $
    by ! (leaves 𝓛 ended stayed c y vunit tt (new, (tt, (tt, (tt, tt)))) (tt, (tt, (tt, (tt, tt)))))))))))))
