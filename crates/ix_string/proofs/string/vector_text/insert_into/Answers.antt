use Rattle.std.proofs.Common.{ℕ, ◌≡◌, ◌+◌, ◌-◌, ◌++◌, ◌∙◌, List, length, take, drop, slice_range, min, refl, ap, arith}
use Rattle.std.specs.List.{insert_slice}
use Rattle.std.proofs.lemmas.Grind.{common_steps}
use Rattle.std.proofs.lemmas.List.{length-take-le, take_rest}
use Rattle.ix_tables.specs.Bounded.{Bounded, with_items}
use Rattle.ix_vector.specs.VectorSteps.{vec_extend}
use Rattle.ix_string.proofs.Insertions.{insert_slice-parts}
use Rattle.ix_string.proofs.string.vector_text.insert_into.Goals as goal

pub returns-then-below_end-gt0 : goal.returns-then-below_end-gt0
returns-then-below_end-gt0 g c =
    let old = g.V.Vector.bounded c.args.vector.now in
    let xs = old.items in
    let bytes = c.args.bytes.now in
    let i = c.args.idx in
    let n = c.len-len.result in
    let b = c.min-below_end.result in
    let e = n - b in
    let front = take b bytes in
    let longer = xs ++ drop b bytes in
    let buffer = longer ++ slice_range longer e n in
    let least : b ≡ min (length bytes) (n - i) = c.min-below_end.ensures in
    let counted : length front ≡ b = length-take-le b bytes (grind (arith, common_steps, least)) in
    let parts = insert_slice-parts xs bytes i b e n c.len-len.ensures.value (omega (arith, c.requires.index, c.len-len.ensures.value)) least refl in
    let once : g.V.Vector.bounded c.extend_from_slice_unchecked.new.self ≡ with_items old longer = c.in-Ok.ensures.vector ∙ ap (vec_extend old) (take_rest bytes b) in
    let twice : g.V.Vector.bounded c.push_again.new.vector ≡ with_items old buffer =
    c.push_again.ensures ∙ ap (λ (v : Bounded ℕ). vec_extend v (slice_range v.items e n)) once in
    let lent : c.as_mut_slice.result.now ≡ buffer = c.as_mut_slice.ensures.value ∙ ap (λ (v : Bounded ℕ). v.items) twice in
    let opened : c.open_gap.new.buffer ≡ insert_slice xs i bytes =
    c.open_gap.ensures ∙ ap (λ (r : List ℕ). insert_slice (take e r) i front ++ drop (e + length front) r) lent
    ∙ ap (λ (k : ℕ). insert_slice (take e buffer) i front ++ drop (e + k) buffer) counted ∙ parts in
    let same = c.open_gap.auto.buffer ∙ ap length c.as_mut_slice.ensures.value in
    g.met.V.Vector.bounded_with_slice c.push_again.new.vector c.open_gap.new.buffer same
    ∙ ap (λ (v : Bounded ℕ). with_items v c.open_gap.new.buffer) twice ∙ ap (with_items old) opened
