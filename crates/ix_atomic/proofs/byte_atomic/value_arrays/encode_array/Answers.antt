use Rattle.std.proofs.Common.{◌≡◌, ◌+◌, ◌-◌, [], ◌∷◌, ◌++◌, length, take, drop, All, subst, sym, ap, ◌∙◌, arith}
use Rattle.std.specs.List.{flat_map}
use Rattle.std.proofs.lemmas.Grind.{common_steps}
use Rattle.ix_atomic.proofs.ArrayEncodings.{times-more, All-push, flat_map-write}
use Rattle.ix_atomic.proofs.byte_atomic.value_arrays.encode_array.Goals as goal

pub loop-value-preserved : goal.loop-value-preserved
loop-value-preserved g c =
    let is_value = g.T.AtomicCopy.is_value in let encoding = g.T.AtomicCopy.encoding in let size = g.T.AtomicCopy.SIZE in
    let long = g.met.T.AtomicCopy.encoding_len in
    let kept = c.loop-value.invariant in let values = c.args.values.now in let i = c.loop-value.value-index in let value = c.value-item.result in
    let start = c.loop-value.start in let below = c.loop-value-test.true in
    let next : take (i + 1) values ≡ take i values ++ value ∷ [] = grind (arith, common_steps, c.value-item.is) in
    let count : length (take i values) ≡ i = grind (arith, common_steps) in
    let part : start + c.SIZE.result - start ≡ size = omega (arith, c.SIZE.ensures) in
    let one_more = times-more i size in
    let is = subst is_value (sym c.value-item.is) c.encode.ensures.in_range in
    let bytes : c.encode.new.out ≡ encoding value = c.encode.ensures.out ∙ ap encoding (sym c.value-item.is) in (
      omega (arith, c.SIZE.ensures, kept.0),
      subst (All is_value) (sym next) (All-push is_value encoding size long (take i values) value kept.1 is),
      ap (λ k. take start c.loop-value.out ++ (c.encode.new.out ++ drop k (drop start c.loop-value.out))) part
          ∙ flat_map-write is_value encoding size long (take i values) value i start size c.loop-value.out c.args.out.now c.encode.new.out count kept.1 kept.0 kept.2 bytes
          ∙ (λ j. flat_map encoding (sym next j) ++ drop (start + sym c.SIZE.ensures j) c.args.out.now),
    )
