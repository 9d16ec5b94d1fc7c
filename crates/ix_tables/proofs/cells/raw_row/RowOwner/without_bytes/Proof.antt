-- `without_bytes` makes places of no bytes, at an address that is never read. Assumes `Logic`.
use Rattle.ix_tables.proofs.RawNames.{◌≡◌, ℕ, ◌*◌, ◌^◌, ◌<◌, [], ◌∷◌, length, replicate, None, refl, sym, subst, lit<, proved}
use Rattle.ix_tables.proofs.RawNames.{leaves, SProp, emp, ftrue, flft, Fn, w64, inst_fn, Val, vint, ◌⊑◌, fact, fact_i, tables, ‵}
use Rattle.ix_tables.proofs.RawNames.{raw, ◌⊛◌, ◌$◌, ◌∵◌, !, qed, by, move, keep, drop, use0, use2, split, join, fjoin, flt_i, agg}
use Rattle.ix_tables.proofs.RawNames.{stop, from, addr, and_then, no_more, returns, enter, alloc_all, pass_all}
use Rattle.ix_tables.proofs.RawNames.{free_all, look_at, get, sets, usize, yes, owns, Ptr, block_ptr, plain, types_at, nothing}
use Rattle.ix_tables.proofs.RawNames.{heard, Stays, stay_dropped, walk_of, Goes-dropped, word, word-Good, uint_vals, uint_Tells}
use denote.Struct.Tuple.{Tuple}
use Rattle.std.proofs.lemmas.List.{length-replicate}
use Rattle.std_alloc.proofs.Pairs.{pair_val, pair_of}
use Rattle.ix_tables.specs.inner.RawMemory.{places_own}
use Rattle.ix_tables.specs.inner.RawRows.{IsVacantRow}
use Rattle.ix_tables.specs.contracts.cells.raw_row.RowOwner.without_bytes as f
use Rattle.ix_tables.proofs.RawSteps.{P, inst, s, Owner, Start, Mark, bytes_none, mark_made, start_made, bare_places}
use Rattle.ix_tables.proofs.cells.raw_row.RowOwner.without_bytes.Statement.{statement}
use Rattle.ix_tables.proofs.cells.raw_row.RowOwner.without_bytes.Code as code

pub without_bytes_spec : {M : Type 1} → statement M
without_bytes_spec 𝓤 𝓛 𝓜 𝓡 wired T L =
    let H = 𝓛.H in let 𝓣 = tables 𝓤 H 𝓜 𝓡 𝓡.env in let fn : Fn = inst_fn (inst T) code.function in
    let ended = f.ended T in let c = f.clauses T 𝓛 𝓜.mem 𝓡.returns in let count = plain (λ _. usize) in
    let stayed : Stays ended.signature.params ended.kept = (stay_dropped count yes, tt) in let W = walk_of 𝓛 ended stayed c in
    proved 𝓛 ended stayed c 𝓜 𝓡 (Goes-dropped 𝓛 1 count yes (λ κs x w. refl), tt) (f.Key.name (inst T)) fn (code.unfolded 𝓤 H 𝓜 𝓡 wired (T, tt))
    (λ κs. (uint_vals w64, tt)) (λ κs. (uint_Tells w64, tt)) (λ κs qs bounds a _ are.
    let len : ℕ = a.0 in let y : W.Ghost = ((κs, qs, bounds, a, (vint w64 len ∷ [], tt)), tt) in
    let Post : Val → SProp 𝓤 = W.post y in
    qed 𝓛 (((‵ (flft κs.0 qs.0) ⊛ ‵ ftrue) ⊛ ‵ (owns (types_at ended.signature.params κs) a y.0.4)) ∷ (raw (fact 𝓤 (κs.0 ⊑ T.lives)) ⊛ raw (fact 𝓤 (len * s T ≡ 0))) ∷ []) ∵
    move ! (1 ∷ []) $ split ! $ drop ! $ heard ! _ (λ bare. split ! $ keep ! (0 ∷ []) $
    enter ! 𝓣.C 𝓣.Λ fn (vint w64 len ∷ []) Post $ alloc_all ! (λ l. pass_all ! refl ((tt, record { fits = are.0.1 }), tt) $
    let b : ℕ = l 2 in let p : Ptr = block_ptr b 0 in
    let start : (Start T).Denot = record { start = p } in
    let row : (Owner T).Denot = record { mark = record {}; start = p; places = replicate len None; bytes = 0 } in
    let made : Val = pair_val (word p) bytes_none in
    let vacant : IsVacantRow row p len = record { start = refl; places = refl } in
    sets ! (agg ! (no_more !)) refl (tt, tt) $ sets ! (addr ! (from ! (stop !))) refl (tt, tt) $
    sets ! (agg ! (and_then ! (get ! refl) (no_more !))) refl (word-Good [] p) $
    sets ! (agg ! (no_more !)) refl (tt, tt) $ sets ! (agg ! (and_then ! (get ! refl) (no_more !))) refl (tt, (tt, tt)) $
    sets ! (agg ! (and_then ! (get ! refl) (and_then ! (get ! refl) (no_more !)))) refl (tt, ((tt, tt), ((tt, tt), tt))) $
    returns ! (look_at ! 0 refl) $ free_all ! refl $
    use0 𝓛 (‵ (places_own (P T) b 0 row.places)) (bare_places T 𝓛 b len 0 bare) $
    flt_i ! (length row.places * s T) (2 ^ 63) (subst (λ (k : ℕ). k * s T < 2 ^ 63) (sym (length-replicate len None)) (subst (λ (k : ℕ). k < 2 ^ 63) (sym bare) (lit< tt))) $
    fjoin ! $
    use0 𝓛 (‵ ((Mark T).own_val (tt, tt) (bytes_none ∷ []))) (mark_made T 𝓛) $ fjoin ! $
    use0 𝓛 (‵ ((Start T).own_val start (word p ∷ []))) (start_made T 𝓛 p) $
    use2 𝓛 (‵ ((Tuple (Start T ∷ Owner T ∷ [])).own_val (start, row) (made ∷ []))) (pair_of 𝓛 (Start T) (Owner T) start row (word p) bytes_none) $
    nothing ! $ nothing ! $ fjoin ! $
    use0 𝓛 (raw (fact 𝓤 (row.bytes ≡ 0))) (fact_i 𝓤 (row.bytes ≡ 0) (emp 𝓤) refl) $
    use0 𝓛 (raw (fact 𝓤 (IsVacantRow row p len))) (fact_i 𝓤 (IsVacantRow row p len) (emp 𝓤) vacant) $ join ! $
    move ! (3 ∷ 1 ∷ 2 ∷ 0 ∷ []) $
    by ! (leaves 𝓛 ended stayed c y made (start, row) (tt, tt) (tt, tt)))))
