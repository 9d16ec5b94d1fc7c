-- `allocate` makes empty places of a new block, and keeps the right to deallocate it. Assumes `Logic`.
use Rattle.ix_tables.proofs.RawNames.{◌≡◌, ℕ, ◌*◌, ◌^◌, ◌<◌, [], ◌∷◌, length, replicate, None, Ok, Err, refl, sym, ap, subst, lit<}
use Rattle.ix_tables.proofs.RawNames.{arith, proved, leaves, SProp, ent, emp, ftrue, flft, Fn, Body, named, w64, ty_array}
use Rattle.ix_tables.proofs.RawNames.{inst_fn, Val, vint, vstruct, vcons, vnil, Env, Wp, after_seq, at_return, ◌⊑◌, Incl-trans}
use Rattle.ix_tables.proofs.RawNames.{fact, fact_i, tables, Item, ‵, raw, ◌⊛◌, later, at_ret, ◌$◌, ◌∵◌, !, qed, by, move, keep}
use Rattle.ix_tables.proofs.RawNames.{drop, await, use0, use1, use2, use3, split, split3, join, fsplit, fjoin, flt_i, whole, agg}
use Rattle.ix_tables.proofs.RawNames.{stop, fld, lit, of_opd, bin, size_word, align_word, and_then, no_more, first, switches_on}
use Rattle.ix_tables.proofs.RawNames.{exec, returns, enter, alloc_all, pass_all, free_all, look_at, get, get_in, get_tag, sets}
use Rattle.ix_tables.proofs.RawNames.{sets_last, lands_as, is, env, usize, RefOf, yes, layout, param, uint_vals, uint_Tells}
use Rattle.ix_tables.proofs.RawNames.{RattleType, owns, Ptr, block_ptr, shr_vals, shr_Tells, plain, types_at, nothing, heard}
use Rattle.ix_tables.proofs.RawNames.{Stays, stay_dropped, walk_of, Goes-dropped, after, word, word-Good, as_written, calls_at}
use Rattle.ix_tables.proofs.RawNames.{framed, align, capped, capped_fits, FitsInBlock, Al, uncapped, block_ty, block_size}
use Rattle.ix_tables.proofs.RawNames.{block_align, args}
use types.Kit.{⋆, any_q, Post as After}
use types.Match.{live, vrt, in_variant}
use denote.Laws.{Is}
use denote.Steps.{owned}
use denote.Struct.Struct.{Struct, Struct-Makes}
use denote.Struct.Declared as Declared
use denote.Struct.Tuple.{Tuple}
use Rattle.std.specs.Prelude.{IfOk, true, false}
use Rattle.std.proofs.lemmas.List.{length-replicate}
use Rattle.std.specs.contracts.alloc.AllocError as error
use Rattle.std.specs.contracts.result.Result as answer
use Rattle.core.proofs.alloc.Calls.{Takes, at_takes, Takes-goes, Takes-gives, Answered, Answer-typed, answers}
use Rattle.std_alloc.proofs.VecSteps.Shapes.{head, arm_body}
use Rattle.std_alloc.proofs.ResultValues.{ok_of, err_of}
use Rattle.std_alloc.proofs.RcSteps.{Good, first_Good}
use Rattle.ix_tables.specs.inner.RawMemory.{places_own}
use Rattle.ix_tables.specs.inner.RawRows.{IsVacantRow, IsGrantFor}
use Rattle.ix_tables.specs.contracts.cells.raw_row.RowGrant as grant
use Rattle.ix_tables.specs.contracts.cells.raw_row.RowGrant.allocate as f
use Rattle.ix_tables.proofs.RawSteps.{P, τ, s, E, Owner, Start, Mark, bytes_none, mark_made, start_made, three_val, three_made}
use Rattle.ix_tables.proofs.RawSteps.{room_out}
use Rattle.ix_tables.proofs.cells.raw_row.RowGrant.allocate.Statement.{statement}
use Rattle.ix_tables.proofs.cells.raw_row.RowGrant.allocate.Code as code

pub allocate_spec : {M : Type 1} → statement M
allocate_spec 𝓤 𝓛 𝓜 𝓡 wired T A L LA g d drops met _ =
    let Z : Al = record { row = A; laws = LA; g = g; d = d; drops = drops } in let A' : RattleType = param 1 A in
    let Grant : RattleType = grant.the_row (P T) A' g in let Three : RattleType = Tuple (Start T ∷ Owner T ∷ Grant ∷ []) in
    let Out : RattleType = answer.the_row Three error.the_row in
    let H = 𝓛.H in let 𝓣 = tables 𝓤 H 𝓜 𝓡 𝓡.env in let fn : Fn = inst_fn (args (E T L) Z) code.function in
    let ended = f.ended T A g d drops in let c = f.clauses T A g d drops 𝓛 𝓜.mem 𝓡.returns in
    let lent = RefOf (0 ∷ []) tt (plain (λ _. A')) (λ _. tt) in let count = plain (λ _. usize) in
    let stayed : Stays ended.signature.params ended.kept = (stay_dropped lent yes, (stay_dropped count yes, tt)) in
    let W = walk_of 𝓛 ended stayed c in
    proved 𝓛 ended stayed c 𝓜 𝓡 (Goes-dropped 𝓛 3 lent yes (λ κs x w. refl), (Goes-dropped 𝓛 3 count yes (λ κs x w. refl), tt))
    (f.Key.name (args (E T L) Z)) fn (code.unfolded 𝓤 H 𝓜 𝓡 wired (T, (A, tt)) d drops)
    (λ κs. (shr_vals, (uint_vals w64, tt))) (λ κs. (shr_Tells (named 0) κs.0 A', (uint_Tells w64, tt))) (λ κs qs bounds a _ are.
    let κ = κs.0 in let q = qs.0 in let self = a.0 in let alloc = self.now in let len : ℕ = a.1.0 in
    let y : W.Ghost = ((κs, qs, bounds, a, (shr_vals self, (vint w64 len ∷ [], tt))), tt) in
    let Post : Val → SProp 𝓤 = W.post y in
    let tokens : Item 𝓤 = ‵ (flft κs.1.0 qs.1.0) ⊛ ‵ (flft κs.1.1.0 qs.1.1.0) ⊛ ‵ ftrue in
    let ends : (r : Out.Denot) (v : Val) → IfOk r (λ made. IsVacantRow made.1 made.0.start len) → IfOk r (λ made. made.1.bytes ≡ len * s T) → IfOk r (λ made. IsGrantFor made.2 made.0.start len alloc)
    → ent 𝓤 (⋆ 𝓛 (‵ (Out.own_val r (v ∷ [])) ∷ ‵ (flft κ q) ∷ tokens ∷ [])) (Post v) = λ r v vacant sized granted.
    (qed 𝓛 (‵ (Out.own_val r (v ∷ [])) ∷ ‵ (flft κ q) ∷ tokens ∷ []) ∵ move ! (1 ∷ 2 ∷ []) $ join ! $ nothing ! $ nothing ! $
    fjoin ! $ nothing ! $ fjoin ! $
    use0 𝓛 (raw (fact 𝓤 (IfOk r (λ made. IsGrantFor made.2 made.0.start len alloc)))) (fact_i 𝓤 (IfOk r (λ made. IsGrantFor made.2 made.0.start len alloc)) (emp 𝓤) granted) $
    use0 𝓛 (raw (fact 𝓤 (IfOk r (λ made. made.1.bytes ≡ len * s T)))) (fact_i 𝓤 (IfOk r (λ made. made.1.bytes ≡ len * s T)) (emp 𝓤) sized) $ join ! $
    use0 𝓛 (raw (fact 𝓤 (IfOk r (λ made. IsVacantRow made.1 made.0.start len)))) (fact_i 𝓤 (IfOk r (λ made. IsVacantRow made.1 made.0.start len)) (emp 𝓤) vacant) $
    join ! $
    move ! (2 ∷ 1 ∷ 3 ∷ 0 ∷ []) $ by ! (leaves 𝓛 ended stayed c y v r (tt, (tt, tt)) (tt, (tt, tt)))) in
    qed 𝓛 (((‵ (flft κ q) ⊛ tokens) ⊛ ‵ (owns (types_at ended.signature.params κs) a y.0.4))
    ∷ (raw (fact 𝓤 (κs.1.0 ⊑ T.lives)) ⊛ raw (fact 𝓤 (κs.1.1.0 ⊑ A.lives)) ⊛ raw (fact 𝓤 (FitsInBlock (P T) len))) ∷ []) ∵
    move ! (1 ∷ []) $ split3 ! $ drop ! $ heard ! _ (λ within. heard ! _ (λ asked. split ! $ split ! $ move ! (2 ∷ []) $
    fsplit ! $ fsplit ! $ keep ! (1 ∷ 3 ∷ 4 ∷ []) $
    -- [what the allocator lends; the token; the other tokens]
    let small : len * s T < 2 ^ 63 = asked.0 in let bytes : len * s T < 2 ^ 64 = omega arith in
    let al : ℕ = capped (align (τ T)) in let block = block_ty (E T L) len in
    enter ! 𝓣.C 𝓣.Λ fn (W.args y) Post $ alloc_all ! (λ l. pass_all ! refl ((tt, tt), ((tt, record { fits = are.1.0.1 }), tt)) $
    let Ev : Env 𝓤 H = env fn.locals l in let both : Body = head (after 2 fn.body) in
    let Then : After 𝓤 H = any_q (after_seq 𝓤 H (Wp 𝓤 H 𝓣.C 𝓣.Λ Ev (after 3 fn.body) (at_return 𝓤 H Ev Post)) (at_return 𝓤 H Ev Post)) in
    let x : (Takes Z 𝓛 𝓜.mem 𝓡.returns).Ghost = at_takes Z 𝓛 𝓜.mem 𝓡.returns κ q self.ref_ptr alloc (len * s T) al block in
    sets ! (is ! (bin ! (get ! refl) (size_word !) (record { fits = subst (λ (k : ℕ). k < 2 ^ 64) (sym (uncapped len (s T) bytes)) bytes })) (ap (vint w64) (uncapped len (s T) bytes))) refl (tt, record { fits = bytes }) $
    use2 𝓛 (raw ((Takes Z 𝓛 𝓜.mem 𝓡.returns).pre x)) (Takes-goes Z 𝓛 𝓜.mem 𝓡.returns κ q self.ref_ptr alloc (Incl-trans bounds.0 within) (len * s T) al block (block_size (E T L) len bytes) (block_align (E T L) len) bytes (capped_fits (align (τ T)))) $
    calls_at ! (framed 𝓤 H 𝓜 𝓣) (Takes Z 𝓛 𝓜.mem 𝓡.returns) (met.allocate drops) x (and_then ! (get ! refl) (and_then ! (get ! refl) (and_then ! (align_word !) (no_more !)))) (λ v.
    use1 𝓛 (later (raw (Answered Z 𝓛 𝓜.mem 𝓡.returns alloc block v) ⊛ ‵ (flft κ q))) (Takes-gives Z 𝓛 𝓜.mem 𝓡.returns κ q self.ref_ptr alloc (len * s T) al block v) $
    await ! tt $ split ! $
    answers Z ! 𝓜.mem 𝓡.returns alloc block v
    (λ b o e.
    let p : Ptr = block_ptr b o in let start : (Start T).Denot = record { start = p } in
    let row : (Owner T).Denot = record { mark = record {}; start = p; places = replicate len None; bytes = len * s T } in
    let right : Grant.Denot = record { mark = record {}; start = p; len = len; alloc = alloc } in
    let made : Val = three_val (word p) bytes_none bytes_none in
    let typed : Good (layout Three) made = (tt, ((tt, tt), ((tt, tt), ((tt, tt), tt)))) in
    let good = first_Good (layout Three) made typed in
    let vacant : IsVacantRow row p len = record { start = refl; places = refl } in
    let granted : IsGrantFor right p len alloc = record { start = refl; len = refl; alloc = refl } in
    lands_as ! e refl (Answer-typed true b o) $ first ! $
    switches_on ! (get_tag ! (vrt ! refl (fld ! refl (stop !))) (whole !)) $ exec ! 𝓣.C 𝓣.Λ Ev (arm_body 0 both) Then $
    sets ! (of_opd ! (get_in ! (vrt ! refl (fld ! refl (stop !))) (in_variant ! 0 0 refl refl (whole !)))) refl (tt, tt) $
    sets ! (of_opd ! (get ! refl)) refl (tt, tt) $
    sets ! (agg ! (and_then ! (get ! refl) (no_more !))) refl (word-Good [] p) $
    sets ! (agg ! (no_more !)) refl (tt, tt) $ sets ! (agg ! (and_then ! (get ! refl) (no_more !))) refl (tt, (tt, tt)) $
    sets ! (agg ! (no_more !)) refl (tt, tt) $ sets ! (agg ! (and_then ! (get ! refl) (no_more !))) refl (tt, (tt, tt)) $
    sets ! (agg ! (and_then ! (get ! refl) (and_then ! (get ! refl) (and_then ! (get ! refl) (no_more !))))) refl typed $
    sets_last ! (agg ! (and_then ! (lit ! tt) (and_then ! (get ! refl) (no_more !)))) refl good $
    exec ! 𝓣.C 𝓣.Λ Ev (after 3 fn.body) (at_ret Ev Post) $ sets ! (of_opd ! (get ! refl)) refl good $
    -- [the block's room; its token; the token; the other tokens]
    move ! (1 ∷ []) $ use0 𝓛 (‵ ((Mark T).own_val (tt, tt) (bytes_none ∷ []))) (mark_made T 𝓛) $ fjoin ! $ move ! (1 ∷ []) $
    as_written ! (ty_array (τ T) len) b o $ use1 𝓛 (‵ (places_own (P T) b o row.places)) (room_out T 𝓛 b len o) $
    flt_i ! (length row.places * s T) (2 ^ 63) (subst (λ (k : ℕ). k * s T < 2 ^ 63) (sym (length-replicate len None)) small) $
    fjoin ! $
    use0 𝓛 (‵ ((Mark T).own_val (tt, tt) (bytes_none ∷ []))) (mark_made T 𝓛) $ fjoin ! $
    use0 𝓛 (‵ ((Start T).own_val start (word p ∷ []))) (start_made T 𝓛 p) $
    use3 𝓛 (‵ (Three.own_val (start, row, right) (made ∷ []))) (three_made 𝓛 (Start T) (Owner T) Grant start row right (word p) bytes_none bytes_none) $
    use1 𝓛 (‵ (Out.own_val (Ok (start, row, right)) (live 0 (vcons made vnil) ∷ []))) (ok_of 𝓛 Three error.the_row (start, row, right) made) $
    returns ! (look_at ! 0 refl) $ free_all ! refl $ keep ! (0 ∷ 1 ∷ 2 ∷ []) $
    by ! (ends (Ok (start, row, right)) (live 0 (vcons made vnil)) vacant refl granted))
    (λ e.
    let Refusal : RattleType = Struct (Declared.shape error.the_type) in let none : Val = live 1 (vcons (vstruct vnil) vnil) in
    lands_as ! e refl (Answer-typed false 0 0) $ first ! $
    switches_on ! (get_tag ! (vrt ! refl (fld ! refl (stop !))) (whole !)) $ exec ! 𝓣.C 𝓣.Λ Ev (arm_body 1 both) Then $
    sets ! (of_opd ! (get_in ! (vrt ! refl (fld ! refl (stop !))) (in_variant ! 1 0 refl refl (whole !)))) refl (tt, tt) $
    sets_last ! (agg ! (and_then ! (lit ! tt) (and_then ! (get ! refl) (no_more !)))) refl (tt, (record { fits = lit< tt }, (tt, tt))) $
    exec ! 𝓣.C 𝓣.Λ Ev (after 3 fn.body) (at_ret Ev Post) $
    sets ! (of_opd ! (get ! refl)) refl (tt, (record { fits = lit< tt }, (tt, tt))) $
    owned ! Refusal (Is Refusal) (Struct-Makes 𝓛 (Declared.shape error.the_type) tt) tt (vstruct vnil ∷ []) (tt, (refl, tt)) $
    use1 𝓛 (‵ (Out.own_val (Err (record {})) (none ∷ []))) (err_of 𝓛 Three error.the_row (record {}) (vstruct vnil)) $
    returns ! (look_at ! 0 refl) $ free_all ! refl $ keep ! (0 ∷ 1 ∷ 2 ∷ []) $ by ! (ends (Err (record {})) none tt tt tt)))))))
