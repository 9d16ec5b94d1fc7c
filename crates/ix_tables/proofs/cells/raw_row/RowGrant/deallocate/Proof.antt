-- `deallocate` makes one block of the empty places, and hands it back with the allocator's token. Assumes `Logic`.
use Rattle.ix_tables.proofs.RawNames.{◌≡◌, ℕ, ◌*◌, ◌^◌, ◌<◌, List, [], ◌∷◌, replicate, None, refl, sym, ap, subst, ◌∙◌, arith}
use Rattle.ix_tables.proofs.RawNames.{proved_at, leaves, SProp, ent, never, id⊢, ftrue, froom, flft, Fn, w64, ty_array, ty_unit}
use Rattle.ix_tables.proofs.RawNames.{inst_fn, Val, vint, vunit, WpFn, ◌⊑◌, Incl-trans, fact, tables, Item, ‵, raw, ◌⊛◌, given}
use Rattle.ix_tables.proofs.RawNames.{later, at_ret, ◌$◌, ◌∵◌, !, qed, by, move, keep, drop, learn, await, use1, split, split3}
use Rattle.ix_tables.proofs.RawNames.{join, group, rewrite, fsplit, fjoin, feq_i, flt_l, whole, sub, stop, fld, unit_lit, of_opd}
use Rattle.ix_tables.proofs.RawNames.{bin, size_word, align_word, and_then, no_more, first, blocks, exec, returns, enter}
use Rattle.ix_tables.proofs.RawNames.{alloc_all, pass_all, free_all, look_at, get, get_in, sets, lands_last, is, env, usize}
use Rattle.ix_tables.proofs.RawNames.{RefOf, yes, no, param, param_laws, RattleType, owns, Ptr, in_a_block, shr_vals, plain}
use Rattle.ix_tables.proofs.RawNames.{types_at, nothing, heard, Stays, stay_dropped, walk_of, Goes-dropped, after, word}
use Rattle.ix_tables.proofs.RawNames.{word-Good, as_raw, calls_at_last, framed, align, capped, capped_fits, Al, token, uncapped}
use Rattle.ix_tables.proofs.RawNames.{block_ty, block_size, block_align, args}
use lib.Dec.{T as IsT}
use mir.Val.{has_ty, WT}
use denote.RawPtr.{ptr_val}
use Rattle.std.proofs.lemmas.List.{length-replicate}
use Rattle.core.proofs.alloc.Calls.{Gives, at_gives, Gives-goes, Gives-Gives, Goes-blank}
use Rattle.ix_tables.specs.inner.RawMemory.{row_owns, grant_owns}
use Rattle.ix_tables.specs.inner.RawRows.{IsVacantRow, IsGrantFor}
use Rattle.ix_tables.specs.contracts.cells.raw_row.RowGrant as grant
use Rattle.ix_tables.specs.contracts.cells.raw_row.RowGrant.deallocate as f
use Rattle.ix_tables.proofs.RawSteps.{P, τ, s, Place, E, Owner, Start, bytes_none, room_in}
use Rattle.ix_tables.proofs.cells.raw_row.RowPtr.TheLaws.{lowers as start_lowers}
use Rattle.ix_tables.proofs.cells.raw_row.RowOwner.TheLaws.{lowers as owner_lowers}
use Rattle.ix_tables.proofs.cells.raw_row.RowGrant.TheLaws.{lowers as grant_lowers}
use Rattle.ix_tables.proofs.cells.raw_row.RowGrant.deallocate.Statement.{statement}
use Rattle.ix_tables.proofs.cells.raw_row.RowGrant.deallocate.Code as code

pub deallocate_spec : {M : Type 1} → statement M
deallocate_spec 𝓤 𝓛 𝓜 𝓡 wired T A L LA g d drops met _ =
    let Z : Al = record { row = A; laws = LA; g = g; d = d; drops = drops } in let A' : RattleType = param 1 A in
    let Grant : RattleType = grant.the_row (P T) A' g in
    let H = 𝓛.H in let 𝓣 = tables 𝓤 H 𝓜 𝓡 𝓡.env in let fn : Fn = inst_fn (args (E T L) Z) code.function in
    let ended = f.ended T A g d drops in let c = f.clauses T A g d drops 𝓛 𝓜.mem 𝓡.returns in
    let right = plain (λ _. Grant) in let lent = RefOf (0 ∷ []) tt (plain (λ _. A')) (λ _. tt) in
    let start = plain (λ _. Start T) in let count = plain (λ _. usize) in let owner = plain (λ _. Owner T) in
    let stayed : Stays ended.signature.params ended.kept = (stay_dropped right no, (stay_dropped lent yes, (stay_dropped start no, (stay_dropped count yes, (stay_dropped owner no, tt))))) in
    let W = walk_of 𝓛 ended stayed c in
    proved_at 𝓛 ended stayed c 𝓜 𝓡 (
      Goes-blank 𝓛 3 right no (λ κs x w. tt),
      (
        Goes-dropped 𝓛 3 lent yes (λ κs x w. refl),
        (
          Goes-dropped 𝓛 3 start no (λ κs x w. refl),
          (Goes-dropped 𝓛 3 count yes (λ κs x w. refl), (Goes-blank 𝓛 3 owner no (λ κs x w. tt), tt)),
        ),
      ),
    ) (f.Key.name (args (E T L) Z)) fn (code.unfolded 𝓤 H 𝓜 𝓡 wired (T, (A, tt)) d drops) (λ z are.
    let κs = z.0.0 in let qs = z.0.1 in let κ = κs.0 in let q = qs.0 in let a = z.0.3 in let self = a.1.0 in
    let alloc = self.now in let p : Ptr = a.1.1.0.start in let len : ℕ = a.1.1.1.0 in let row = a.1.1.1.1.0 in
    let At : List Val × (List Val × (List Val × (List Val × (List Val × Unit {0})))) → W.Ghost = λ vss. ((κs, qs, z.0.2, a, vss), z.1) in
    let y : W.Ghost = At (bytes_none ∷ [], (shr_vals self, (word p ∷ [], (vint w64 len ∷ [], (bytes_none ∷ [], tt))))) in
    let Post : Val → SProp 𝓤 = W.post y in
    let told = grant_lowers (P T) A' g (param_laws 0 T L) (param_laws 1 A LA) in
    subst (λ (vss : List Val × (List Val × (List Val × (List Val × (List Val × Unit {0}))))). ent 𝓤 (W.pre (At vss)) (WpFn 𝓤 H 𝓣.C 𝓣.Λ fn (W.args (At vss)) (W.post (At vss))))
    (λ j. (
      sym (told.val_is a.0 z.0.4.0 are.0) j,
      (
        sym are.1.0.0 j,
        (
          sym ((start_lowers (P T) (param_laws 0 T L)).val_is a.1.1.0 z.0.4.1.1.0 are.1.1.0) j,
          (
            sym are.1.1.1.0.0 j,
            (sym ((owner_lowers (P T) (param_laws 0 T L)).val_is row z.0.4.1.1.1.1.0 are.1.1.1.1.0) j, tt),
          ),
        ),
      ),
    )) (
    let tokens : Item 𝓤 = ‵ (flft κs.1.0 qs.1.0) ⊛ ‵ (flft κs.1.1.0 qs.1.1.0) ⊛ ‵ ftrue in
    qed 𝓛 (((‵ (flft κ q) ⊛ tokens) ⊛ ‵ (owns (types_at ended.signature.params κs) a y.0.4))
    ∷ (raw (fact 𝓤 (κs.1.0 ⊑ T.lives)) ⊛ raw (fact 𝓤 (κs.1.1.0 ⊑ A.lives)) ⊛ raw (fact 𝓤 (IsVacantRow row p len)) ⊛ raw (fact 𝓤 (IsGrantFor a.0 p len alloc))) ∷ []) ∵
    move ! (1 ∷ []) $ split3 ! $ drop ! $ heard ! _ (λ within. split ! $ heard ! _ (λ vacant. heard ! _ (λ granted. split ! $
    split ! $ move ! (2 ∷ []) $
    fsplit ! $ fsplit ! $ drop ! $ move ! (1 ∷ []) $ fsplit ! $ fsplit ! $ drop ! $ move ! (1 ∷ []) $ fsplit ! $ drop ! $
    fsplit ! $ drop ! $ fsplit ! $ fsplit ! $
    keep ! (1 ∷ 4 ∷ 3 ∷ 5 ∷ 6 ∷ []) $
    -- [the row; the grant; what the allocator lends; the token; the other tokens]
    enter ! 𝓣.C 𝓣.Λ fn (W.args y) Post $
    alloc_all ! (λ l. pass_all ! refl ((tt, (tt, tt)), ((tt, tt), (word-Good [] p, ((tt, record { fits = are.1.1.1.0.1 }), ((tt, (tt, tt)), tt))))) $
    let Ev = env fn.locals l in
    rewrite ! 0 (λ (r : Ptr × List (Place T)). ‵ (row_owns (P T) r.0 r.1)) (λ j. (vacant.start j, vacant.places j)) refl $
    in_a_block ! p (λ r. row_owns (P T) r (replicate len None)) (id⊢ 𝓤 (never 𝓤)) (λ b o e. fsplit ! $ flt_l ! (λ fit.
    let small : len * s T < 2 ^ 63 = subst (λ (k : ℕ). k * s T < 2 ^ 63) (length-replicate len None) fit in
    let bytes : len * s T < 2 ^ 64 = omega arith in
    let al : ℕ = capped (align (τ T)) in let block = block_ty (E T L) len in
    let x : (Gives Z 𝓛 𝓜.mem 𝓡.returns).Ghost = at_gives Z 𝓛 𝓜.mem 𝓡.returns κ q self.ref_ptr alloc b o (len * s T) al block in
    rewrite ! 1 (λ (r : A.Denot × Ptr × ℕ). ‵ (grant_owns (P T) (token Z r.0) r.1 r.2)) (λ j. (granted.alloc j, (granted.start ∙ e) j, granted.len j)) refl $
    use1 𝓛 (‵ (froom (ty_array (τ T) len) b o)) (room_in T 𝓛 b len o) $ as_raw ! (ty_array (τ T) len) b o $ first ! $ blocks ! $
    sets ! (is ! (of_opd ! (get_in ! (fld ! refl (stop !)) (sub ! 0 refl (whole !)))) (ap ptr_val e)) refl (tt, tt) $
    sets ! (is ! (bin ! (get ! refl) (size_word !) (record { fits = subst (λ (k : ℕ). k < 2 ^ 64) (sym (uncapped len (s T) bytes)) bytes })) (ap (vint w64) (uncapped len (s T) bytes))) refl (tt, record { fits = bytes }) $
    group ! 4 $
    use1 𝓛 (raw ((Gives Z 𝓛 𝓜.mem 𝓡.returns).pre x)) (Gives-goes Z 𝓛 𝓜.mem 𝓡.returns κ q self.ref_ptr alloc (Incl-trans z.0.2.0 within) b o (len * s T) al block (block_size (E T L) len bytes) (block_align (E T L) len) bytes (capped_fits (align (τ T)))) $
    calls_at_last ! (framed 𝓤 H 𝓜 𝓣) (Gives Z 𝓛 𝓜.mem 𝓡.returns) (met.deallocate drops) x (and_then ! (get ! refl) (and_then ! (get ! refl) (and_then ! (get ! refl) (and_then ! (align_word !) (no_more !))))) (λ v.
    use1 𝓛 (later (given (v ≡ vunit) (‵ (flft κ q)))) (Gives-Gives Z 𝓛 𝓜.mem 𝓡.returns κ q self.ref_ptr alloc b o (len * s T) al block v) $
    await ! tt $ learn ! (λ is_unit.
    lands_last ! refl (subst (λ (u : Val). IsT (has_ty ty_unit u) × WT u) (sym is_unit) (tt, tt)) $
    exec ! 𝓣.C 𝓣.Λ Ev (after 1 fn.body) (at_ret Ev Post) $
    sets ! (of_opd ! (unit_lit !)) refl (tt, tt) $ returns ! (look_at ! 0 refl) $ free_all ! refl $ keep ! (0 ∷ 1 ∷ []) $
    join ! $
    nothing ! $ nothing ! $ fjoin ! $ nothing ! $ fjoin ! $ nothing ! $ fjoin ! $ nothing ! $ fjoin ! $ nothing ! $ fjoin ! $
    feq_i ! (List Val) (vunit ∷ []) (vunit ∷ []) refl $ nothing ! $ move ! (3 ∷ 2 ∷ 1 ∷ 0 ∷ []) $
    by ! (leaves 𝓛 ended stayed c y vunit tt (tt, (tt, (tt, (tt, (tt, tt))))) (tt, (tt, (tt, (tt, (tt, tt))))))))))))))))
