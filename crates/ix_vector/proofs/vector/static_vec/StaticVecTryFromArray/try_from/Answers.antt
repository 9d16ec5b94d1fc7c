use Rattle.std.proofs.Common.{◌≡◌, ℕ, suc, ◌+◌, ◌<◌, List, ◌∷◌, [], ◌++◌, length, take, drop, ap, sym, ◌∙◌, arith, rules, get_or}
use Rattle.std.proofs.lemmas.List.{drop_more, drop-set-lt}
use Rattle.std.proofs.Math.Seq.{take-suc}
use Rattle.ix_vector.proofs.vector.static_vec.StaticVecTryFromArray.try_from.Goals as goal

-- lists with the same rest from i on have the same item there, and the same rest behind it
same_rest : {T : Type 0} (xs ys : List T) (i : ℕ) (d : T) → i < length xs → i < length ys → drop i xs ≡ drop i ys → (get_or xs i d ≡ get_or ys i d) × (drop (i + 1) xs ≡ drop (i + 1) ys)
same_rest xs ys i d in_xs in_ys same =
    let both : get_or xs i d ∷ drop (i + 1) xs ≡ get_or ys i d ∷ drop (i + 1) ys = sym (drop_more xs i d in_xs) ∙ same ∙ drop_more ys i d in_ys in (cc, cc)

pub loop-i-preserved : goal.loop-i-preserved
loop-i-preserved g c =
    let x = c.index-items-i.result in
    let long : length c.args.items ≡ g.row.N = search rules in
    let long_now : length c.loop-i.items ≡ g.row.N = search rules in
    let within : c.loop-i.i < length c.args.items = omega arith in
    let within_now : c.loop-i.i < length c.loop-i.items = omega arith in
    let rest = same_rest c.loop-i.items c.args.items c.loop-i.i x within_now within c.loop-i.invariant.1 in
    let next : suc c.loop-i.i ≡ c.loop-i.i + 1 = omega arith in (
      ap (λ v. v.items) c.push_unchecked.ensures
          ∙ (λ j. c.loop-i.invariant.0 j ++ (c.take.ensures.value ∙ rest.0) j ∷ [])
          ∙ sym (take-suc c.args.items c.loop-i.i x within) ∙ ap (λ n. take n c.args.items) next,
      drop-set-lt (c.loop-i.i + 1) c.loop-i.items c.loop-i.i _ (omega arith) ∙ rest.1,
    )
