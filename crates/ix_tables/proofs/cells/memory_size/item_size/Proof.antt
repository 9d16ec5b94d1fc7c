-- `item_size` returns the size of its type, or the greatest number if that is greater. Assumes `Logic`.
use Rattle.ix_tables.proofs.RawNames.{ℕ, List, [], ◌∷◌, refl, proved, ftrue, flft, Fn, inst_fn, Val, ‵, raw, ◌⊛◌, ◌$◌, ◌∵◌, !, qed, split, move, drop, keep, fjoin, feq_i, of_opd, returns, enter, alloc_all, pass_all, free_all, look_at, sets, layout, nothing, Stays, walk_of}
use Prim.Native.Nat.{◌^◌}
use mir.Syntax.{w64}
use mir.Val.{vint}
use prog.Memory.{size, capped}
use prog.Capped.{capped_fits}
use types.Kit.{suffices, done, join, flt_i}
use types.Run.{size_word}
use denote.Triple.Walked.{says, ends_at}
use Rattle.ix_tables.specs.contracts.cells.memory_size.item_size as f
use Rattle.ix_tables.proofs.Memory.{capped-is_saturated}
use Rattle.ix_tables.proofs.RawSteps.{inst}
use Rattle.ix_tables.proofs.cells.memory_size.item_size.Statement.{statement}
use Rattle.ix_tables.proofs.cells.memory_size.item_size.Code as code

pub item_size_spec : {M : Type 1} → statement M
item_size_spec 𝓤 𝓛 𝓜 𝓡 wired T L =
    let fn : Fn = inst_fn (inst T) code.function in
    let ended = f.ended T in let c = f.clauses T 𝓛 𝓜.mem 𝓡.returns in
    let stayed : Stays ended.signature.params ended.kept = tt in
    let W = walk_of 𝓛 ended stayed c in
    let s : ℕ = capped (size (layout T)) in
    proved 𝓛 ended stayed c 𝓜 𝓡 tt (f.Key.name (inst T)) fn (code.unfolded 𝓤 𝓛.H 𝓜 𝓡 wired (T, tt))
    (λ κs. tt) (λ κs. tt) (λ κs qs bounds a _ are.
    let y : W.Ghost = ((κs, qs, bounds, a, tt), tt) in
    qed 𝓛 (((‵ (flft κs.0 qs.0) ⊛ ‵ ftrue) ⊛ ‵ ftrue) ∷ raw ((c κs a).requires tt) ∷ []) ∵ move ! (1 ∷ []) $ drop ! $ split ! $
    enter ! _ _ _ _ _ $ alloc_all ! (λ l. pass_all ! refl tt $
    sets ! (of_opd ! (size_word !)) refl (tt, record { fits = capped_fits (size (layout T)) }) $
    returns ! (look_at ! 0 refl) $ free_all ! refl $
    suffices ! _ (ends_at 𝓛 ended stayed c y (vint w64 s) s tt tt) $ says ! (capped-is_saturated (size (layout T))) $
    flt_i ! s (2 ^ 64) (capped_fits (size (layout T))) $ feq_i ! (List Val) (vint w64 s ∷ []) (vint w64 s ∷ []) refl $ fjoin ! $ nothing ! $ join ! $ move ! (1 ∷ 0 ∷ []) $ join ! $ keep ! (0 ∷ []) $ done !))
