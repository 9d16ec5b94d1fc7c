-- `get` shows an item that the row lends. Assumes `Logic`.
use Rattle.ix_tables.proofs.RawNames.{◌≡◌, ℕ, ◌+◌, ◌*◌, List, [], ◌∷◌, length, get_or, Some, None, refl, sym, subst, ◌∙◌}
use Rattle.ix_tables.proofs.RawNames.{proved_at, leaves, full_share, SProp, ent, emp, never, id⊢, ftrue, fat, flft, Fn, w64}
use Rattle.ix_tables.proofs.RawNames.{inst_fn, Val, vint, vptr, WpFn, ◌⊑◌, fact, fact_i, tables, ‵, raw, ◌⊛◌, at_ret, ◌$◌, ◌∵◌}
use Rattle.ix_tables.proofs.RawNames.{ !, qed, by, move, keep, drop, use0, use1, split, split3, rewrite, fsplit, fjoin, feq_i}
use Rattle.ix_tables.proofs.RawNames.{flt_l, whole, sub, stop, fld, addr, of_opd, bin, size_lit, first, blocks, exec, returns}
use Rattle.ix_tables.proofs.RawNames.{enter, alloc_all, pass_all, free_all, look_at, get, get_in, through, sets, sets_last}
use Rattle.ix_tables.proofs.RawNames.{take_at, give_at, env, usize, RefOf, yes, no, hide, unhide, layout, param_laws, owns, Ptr}
use Rattle.ix_tables.proofs.RawNames.{in_a_block, shr_vals, plain, types_at, nothing, heard, Stays, stay_dropped, walk_of}
use Rattle.ix_tables.proofs.RawNames.{Goes-dropped, after, word, word-Good}
use Rattle.ix_tables.specs.Places.{IsHeldAt}
use Rattle.ix_tables.specs.inner.RawMemory.{place_shares, row_shares}
use Rattle.ix_tables.specs.contracts.cells.raw_row.RowOwner.get as f
use Rattle.ix_tables.proofs.Places.{held_item, held_within}
use Rattle.ix_tables.proofs.RawSteps.{P, inst, s, Place, Owner, Start, offset_fits, place_seen}
use Rattle.ix_tables.proofs.cells.raw_row.RowPtr.TheLaws.{lowers as start_lowers}
use Rattle.ix_tables.proofs.cells.raw_row.RowOwner.get.Statement.{statement}
use Rattle.ix_tables.proofs.cells.raw_row.RowOwner.get.Code as code

pub get_spec : {M : Type 1} → statement M
get_spec 𝓤 𝓛 𝓜 𝓡 wired T L =
    let H = 𝓛.H in let 𝓣 = tables 𝓤 H 𝓜 𝓡 𝓡.env in let fn : Fn = inst_fn (inst T) code.function in
    let ended = f.ended T in let c = f.clauses T 𝓛 𝓜.mem 𝓡.returns in
    let lent = RefOf (0 ∷ []) tt (plain (λ _. Owner T)) (λ _. tt) in let start = plain (λ _. Start T) in
    let index = plain (λ _. usize) in
    let stayed : Stays ended.signature.params ended.kept = (stay_dropped lent yes, (stay_dropped start no, (stay_dropped index yes, tt))) in
    let W = walk_of 𝓛 ended stayed c in
    proved_at 𝓛 ended stayed c 𝓜 𝓡
    (Goes-dropped 𝓛 2 lent yes (λ κs x w. refl), (Goes-dropped 𝓛 2 start no (λ κs x w. refl), (Goes-dropped 𝓛 2 index yes (λ κs x w. refl), tt)))
    (f.Key.name (inst T)) fn (code.unfolded 𝓤 H 𝓜 𝓡 wired (T, tt)) (λ z are.
    let κs = z.0.0 in let qs = z.0.1 in let κ = κs.0 in let a = z.0.3 in let self = a.0 in let d = self.now in
    let p : Ptr = a.1.0.start in let i : ℕ = a.1.1.0 in
    let At : List Val × (List Val × (List Val × Unit {0})) → W.Ghost = λ vss. ((κs, qs, z.0.2, a, vss), z.1) in
    let y : W.Ghost = At (shr_vals self, (word p ∷ [], (vint w64 i ∷ [], tt))) in let Post : Val → SProp 𝓤 = W.post y in
    subst (λ (vss : List Val × (List Val × (List Val × Unit {0}))). ent 𝓤 (W.pre (At vss)) (WpFn 𝓤 H 𝓣.C 𝓣.Λ fn (W.args (At vss)) (W.post (At vss))))
    (λ j. (sym are.0.0 j, (sym ((start_lowers (P T) (param_laws 0 T L)).val_is a.1.0 z.0.4.1.0 are.1.0) j, (sym are.1.1.0.0 j, tt)))) (
    qed 𝓛 (((‵ (flft κ qs.0) ⊛ ‵ (flft κs.1.0 qs.1.0) ⊛ ‵ ftrue) ⊛ ‵ (owns (types_at ended.signature.params κs) a y.0.4))
    ∷ (raw (fact 𝓤 (κs.1.0 ⊑ T.lives)) ⊛ raw (fact 𝓤 (p ≡ d.start)) ⊛ raw (fact 𝓤 (IsHeldAt d.places i))) ∷ []) ∵
    move ! (1 ∷ []) $ split3 ! $ drop ! $ heard ! _ (λ same. heard ! _ (λ held. split ! $ move ! (1 ∷ []) $ fsplit ! $
    fsplit ! $ keep ! (1 ∷ 3 ∷ []) $
    -- [what self lends; the tokens]
    enter ! 𝓣.C 𝓣.Λ fn (W.args y) Post $
    alloc_all ! (λ l. pass_all ! refl ((tt, tt), (word-Good [] p, ((tt, record { fits = are.1.1.0.1 }), tt))) $
    let Ev = env fn.locals l in let found = held_item (get_or d.places i None) held in let x = found.0 in
    let within = held_within d.places i held in
    unhide ! $ fsplit ! $ drop ! $
    in_a_block ! d.start (λ q. row_shares (P T) q d.places κ) (id⊢ 𝓤 (never 𝓤)) (λ b o e. fsplit ! $ flt_l ! (λ small.
    let fits = offset_fits i (length d.places) (s T) within small in let at = i * s T + o in
    take_at ! 2 $ rewrite ! 0 (λ (q : Ptr). ‵ (fat full_share (layout (Start T)) (l 2) 0 (word q))) (same ∙ e) refl $
    give_at ! 2 $ first ! $ blocks ! $
    sets ! (bin ! (get ! refl) (size_lit ! (record { fits = fits.1 })) (record { fits = fits.0 })) refl (tt, record { fits = fits.0 }) $
    sets ! (bin ! (get_in ! (fld ! refl (stop !)) (sub ! 0 refl (whole !))) (get ! refl) tt) refl (tt, tt) $
    use1 𝓛 (‵ (place_shares (P T) b at (get_or d.places i None) κ)) (place_seen T 𝓛 b κ o d.places i within) $
    rewrite ! 0 (λ (place : Place T). ‵ (place_shares (P T) b at place κ)) found.1 refl $ hide ! $
    sets_last ! (addr ! (through ! refl (stop !))) refl (tt, tt) $ exec ! 𝓣.C 𝓣.Λ Ev (after 1 fn.body) (at_ret Ev Post) $
    sets ! (of_opd ! (get ! refl)) refl (tt, tt) $
    feq_i ! (List Val) (vptr b at ∷ []) (vptr b at ∷ []) refl $ fjoin ! $ nothing ! $ nothing ! $ fjoin ! $ nothing ! $
    fjoin ! $ nothing ! $ fjoin ! $
    use0 𝓛 (raw (fact 𝓤 (get_or d.places i None ≡ Some x))) (fact_i 𝓤 (get_or d.places i None ≡ Some x) (emp 𝓤) found.1) $
    returns ! (look_at ! 0 refl) $ free_all ! refl $ keep ! (3 ∷ 1 ∷ 2 ∷ 0 ∷ []) $
    by ! (leaves 𝓛 ended stayed c y (vptr b at) (record { ref_ptr = (b, at); now = x }) (tt, (tt, (tt, tt))) (tt, (tt, (tt, tt)))))))))))
