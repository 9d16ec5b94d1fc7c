-- `get_mut` lends an item, and the row follows it. Assumes `Logic`.
use Rattle.ix_tables.proofs.RawNames.{◌≡◌, ℕ, ◌+◌, ◌*◌, ◌^◌, ◌<◌, List, [], ◌∷◌, length, length-set, get_or, set, Some, None}
use Rattle.ix_tables.proofs.RawNames.{refl, sym, subst, ◌∙◌, proved_at, leaves, full_share, SProp, ent, sep, emp, never, id⊢}
use Rattle.ix_tables.proofs.RawNames.{GName, Fml, ftrue, fsep, fat, flft, Fn, named, w64, inst_fn, Val, vint, vptr, WpFn, ◌⊑◌}
use Rattle.ix_tables.proofs.RawNames.{fact, fact_i, tables, ‵, raw, ◌⊛◌, some, later, at_ret, ◌$◌, ◌∵◌, !, qed, done, by, move}
use Rattle.ix_tables.proofs.RawNames.{keep, drop, pick, await, use0, use1, use2, split, split3, join, group, rewrite, fsplit}
use Rattle.ix_tables.proofs.RawNames.{fsplit3, fjoin, fjoin3, fpack, flt_l, flt_i, sem, whole, sub, stop, fld, addr, of_opd, bin}
use Rattle.ix_tables.proofs.RawNames.{size_lit, first, blocks, exec, returns, enter, alloc_all, pass_all, free_all, look_at, get}
use Rattle.ix_tables.proofs.RawNames.{get_in, through, sets, sets_last, take_at, give_at, env, usize, no, yes, cell_at, mem}
use Rattle.ix_tables.proofs.RawNames.{layout, param_laws, owns, Ptr, block_ptr, in_a_block, MutRef, mut_vals, plain, types_at}
use Rattle.ix_tables.proofs.RawNames.{mut_ref_to, nothing, heard, opens, Stays, stay_dropped, walk_of, Goes-dropped}
use Rattle.ix_tables.proofs.RawNames.{Goes-spent_ref, after, word, word-Good}
use denote.Follow.{follows, Part, lends_Part}
use denote.Memory.{part_of}
use seplogic.Ra.Ura.{Ura}
use types.Logic.{Logic}
use denote.RattleType.{RattleType}
use Rattle.ix_tables.specs.Places.{IsHeldAt}
use Rattle.ix_tables.specs.inner.RawMemory.{place_owns, places_own, row_owns}
use Rattle.ix_tables.specs.inner.RawRows.{with_places}
use Rattle.ix_tables.specs.contracts.cells.raw_row.RowOwner.get_mut as f
use Rattle.ix_tables.proofs.Places.{held_item, held_within}
use Rattle.ix_tables.proofs.RawSteps.{P, inst, s, Place, Owner, Start, Mark, offset_fits, others}
use Rattle.ix_tables.proofs.RawSteps.{place_out, place_in}
use Rattle.ix_tables.proofs.cells.raw_row.RowPtr.TheLaws.{lowers as start_lowers}
use Rattle.ix_tables.proofs.cells.raw_row.RowOwner.get_mut.Statement.{statement}
use Rattle.ix_tables.proofs.cells.raw_row.RowOwner.get_mut.Code as code

module _ (T : RattleType) {M : Type 1} {𝓤 : Ura M} (𝓛 : Logic 𝓤) (d : (Owner T).Denot) (i : ℕ) where
  -- the row with the item w at place i
  abbrev with_item : T.Denot → (Owner T).Denot
  with_item w = with_places d (set d.places i (Some w))

  module _ (vs : List Val) (b o rb ro : ℕ) where
    -- what an owner owns but for that item
    abbrev Rest : Fml
    Rest = fsep (others T 𝓛 b o d.places i) (fsep ((Mark T).own_val (tt, tt) vs) (cell_at full_share (Owner T).mir vs rb ro))

    back : d.start ≡ block_ptr b o → i < length d.places → length d.places * s T < 2 ^ 63 → (w : T.Denot)
        → ent 𝓤 (sep 𝓤 (sem 𝓛 ((mem (P T)).own_at w b (i * s T + o))) (sem 𝓛 Rest)) (sem 𝓛 ((mem (Owner T)).own_at (with_item w) rb ro))
    unfolding part_of
    back e within small w =
        qed 𝓛 (‵ (place_owns (P T) b (i * s T + o) (Some w)) ∷ ‵ Rest ∷ []) ∵ move ! (1 ∷ []) $ fsplit3 ! $
        move ! (3 ∷ 0 ∷ []) $
        use2 𝓛 (‵ (places_own (P T) b o (with_item w).places)) (place_in T 𝓛 b o d.places i within (Some w)) $
        flt_i ! (length (with_item w).places * s T) (2 ^ 63) (subst (λ k. k * s T < 2 ^ 63) (sym (length-set d.places i (Some w))) small) $
        fjoin ! $
        rewrite ! 0 (λ (q : Ptr). ‵ (row_owns (P T) q (with_item w).places)) (sym e) refl $ move ! (1 ∷ 0 ∷ []) $ fjoin ! $
        move ! (1 ∷ 0 ∷ []) $ fjoin ! $
        fpack ! (List Val) (λ us. fsep (cell_at full_share (Owner T).mir us rb ro) ((Owner T).own_val (with_item w) us)) vs $
        done !

pub get_mut_spec : {M : Type 1} → statement M
get_mut_spec 𝓤 𝓛 𝓜 𝓡 wired T L =
    let H = 𝓛.H in let 𝓣 = tables 𝓤 H 𝓜 𝓡 𝓡.env in let fn : Fn = inst_fn (inst T) code.function in
    let ended = f.ended T in let c = f.clauses T 𝓛 𝓜.mem 𝓡.returns in
    let lent = mut_ref_to (0 ∷ []) tt (plain (λ _. Owner T)) in let start = plain (λ _. Start T) in
    let index = plain (λ _. usize) in
    let stayed : Stays ended.signature.params ended.kept = (stay_dropped lent no, (stay_dropped start no, (stay_dropped index yes, tt))) in
    let W = walk_of 𝓛 ended stayed c in
    proved_at 𝓛 ended stayed c 𝓜 𝓡
    (Goes-spent_ref 𝓛 2 (0 ∷ []) tt (plain (λ _. Owner T)), (Goes-dropped 𝓛 2 start no (λ κs x w. refl), (Goes-dropped 𝓛 2 index yes (λ κs x w. refl), tt)))
    (f.Key.name (inst T)) fn (code.unfolded 𝓤 H 𝓜 𝓡 wired (T, tt)) (λ z are.
    let κs = z.0.0 in let qs = z.0.1 in let κ = κs.0 in let q = qs.0 in let a = z.0.3 in let self = a.0 in let d = self.now in
    let p : Ptr = a.1.0.start in let i : ℕ = a.1.1.0 in
    let rb = self.ref_ptr.0 in let ro = self.ref_ptr.1 in let γ = self.ghost_name in let code' = (Owner T).coded.code d in
    let At : List Val × (List Val × (List Val × Unit {0})) → W.Ghost = λ vss. ((κs, qs, z.0.2, a, vss), z.1) in
    let y : W.Ghost = At (mut_vals self, (word p ∷ [], (vint w64 i ∷ [], tt))) in let Post : Val → SProp 𝓤 = W.post y in
    subst (λ (vss : List Val × (List Val × (List Val × Unit {0}))). ent 𝓤 (W.pre (At vss)) (WpFn 𝓤 H 𝓣.C 𝓣.Λ fn (W.args (At vss)) (W.post (At vss))))
    (λ j. (sym are.0.0 j, (sym ((start_lowers (P T) (param_laws 0 T L)).val_is a.1.0 z.0.4.1.0 are.1.0) j, (sym are.1.1.0.0 j, tt)))) (
    qed 𝓛 (((‵ (flft κ q) ⊛ ‵ (flft κs.1.0 qs.1.0) ⊛ ‵ ftrue) ⊛ ‵ (owns (types_at ended.signature.params κs) a y.0.4))
    ∷ (raw (fact 𝓤 (κs.1.0 ⊑ T.lives)) ⊛ raw (fact 𝓤 (p ≡ d.start)) ⊛ raw (fact 𝓤 (IsHeldAt d.places i))) ∷ []) ∵
    move ! (1 ∷ []) $ split3 ! $ drop ! $ heard ! _ (λ same. heard ! _ (λ held. split ! $ split3 ! $ move ! (3 ∷ []) $
    fsplit ! $ fsplit3 ! $ keep ! (1 ∷ 2 ∷ 4 ∷ 5 ∷ []) $
    -- [self, in two parts; the token; the token of T]
    enter ! 𝓣.C 𝓣.Λ fn (W.args y) Post $
    alloc_all ! (λ l. pass_all ! refl ((tt, tt), (word-Good [] p, ((tt, record { fits = are.1.1.0.1 }), tt))) $
    let Ev = env fn.locals l in let found = held_item (get_or d.places i None) held in let x = found.0 in
    let within = held_within d.places i held in
    opens ! tt (Owner T) {h = d} rb ro (λ vs. move ! (1 ∷ []) $ fsplit ! $ move ! (1 ∷ []) $
    in_a_block ! d.start (λ q. row_owns (P T) q d.places) (id⊢ 𝓤 (never 𝓤)) (λ b o e. fsplit ! $ flt_l ! (λ small.
    let fits = offset_fits i (length d.places) (s T) within small in let at = i * s T + o in
    take_at ! 2 $ rewrite ! 0 (λ (q : Ptr). ‵ (fat full_share (layout (Start T)) (l 2) 0 (word q))) (same ∙ e) refl $
    give_at ! 2 $ first ! $ blocks ! $
    sets ! (bin ! (get ! refl) (size_lit ! (record { fits = fits.1 })) (record { fits = fits.0 })) refl (tt, record { fits = fits.0 }) $
    sets ! (bin ! (get_in ! (fld ! refl (stop !)) (sub ! 0 refl (whole !))) (get ! refl) tt) refl (tt, tt) $
    use1 𝓛 (‵ (place_owns (P T) b at (get_or d.places i None)) ⊛ ‵ (others T 𝓛 b o d.places i)) (place_out T 𝓛 b o d.places i within) $
    split ! $
    rewrite ! 0 (λ (place : Place T). ‵ (place_owns (P T) b at place)) found.1 refl $
    -- [the item; the other places; the mark; its cell; the open borrow, in three parts; the token of T]
    sets_last ! (addr ! (through ! refl (stop !))) refl (tt, tt) $ exec ! 𝓣.C 𝓣.Λ Ev (after 1 fn.body) (at_ret Ev Post) $
    sets ! (of_opd ! (get ! refl)) refl (tt, tt) $
    let new = with_item T 𝓛 d i in let rest = sem 𝓛 (Rest T 𝓛 d i vs b o rb ro) in
    let way = back T 𝓛 d i vs b o rb ro e within small in
    move ! (1 ∷ 2 ∷ 3 ∷ []) $ fjoin3 ! $ move ! (2 ∷ 3 ∷ 4 ∷ 1 ∷ 0 ∷ []) $ group ! 5 $
    use1 𝓛 (later (some (λ (δ : GName). raw (Part 𝓛 (Owner T) (P T) new (named 0) κ q rb ro b at γ rest way x δ))))
    (lends_Part 𝓛 (Owner T) (P T) new (named 0) κ q rb ro b at γ rest way code' code' x) $ await ! tt $ pick ! (λ δ.
    use1 𝓛 (‵ ((MutRef (named 0) κ (P T)).own_val (record { ref_ptr = (b, at); ghost_name = δ; now = x }) (vptr b at ∷ [])) ⊛ ‵ (flft κ q) ⊛ ‵ (follows (Owner T) (P T) γ δ new)) (id⊢ 𝓤 _) $
    split3 ! $
    -- [the reference to the item; the token; what the row ends as; the token of T]
    nothing ! $ move ! (4 ∷ 0 ∷ []) $ join ! $ move ! (2 ∷ 0 ∷ []) $ join ! $ nothing ! $ nothing ! $ fjoin ! $ nothing ! $
    fjoin ! $ nothing ! $ fjoin ! $
    use0 𝓛 (raw (fact 𝓤 (get_or d.places i None ≡ Some x))) (fact_i 𝓤 (get_or d.places i None ≡ Some x) (emp 𝓤) found.1) $
    move ! (4 ∷ 0 ∷ []) $ join ! $
    returns ! (look_at ! 0 refl) $ free_all ! refl $ move ! (2 ∷ 1 ∷ 3 ∷ 0 ∷ []) $
    by ! (leaves 𝓛 ended stayed c y (vptr b at) (record { ref_ptr = (b, at); ghost_name = δ; now = x }) (tt, (tt, (tt, tt))) (tt, (tt, (tt, tt)))))))))))))
