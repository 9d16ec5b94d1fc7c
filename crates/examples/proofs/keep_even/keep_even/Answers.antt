use Rattle.std.proofs.Common.{rules, ◌≡◌, ◌%◌, ◌<◌, ◌≤◌, length, take, get_or, [], ◌∷◌, subst, sym, ap, ◌∙◌, arith}
use Rattle.std.specs.Prelude.{All, List, ℕ}
use Rattle.std.proofs.lemmas.List.{take_more, take_all}
use Rattle.std.proofs.lemmas.List.Elements.{All-append}
use Rattle.examples.proofs.keep_even.keep_even.Goals as goal

pub loop-i-preserved-then-as_slice-i-eq0 : goal.loop-i-preserved-then-as_slice-i-eq0
loop-i-preserved-then-as_slice-i-eq0 g c =
    let items = (g.V.Vector.bounded c.loop-i.vector).items in
    let len = c.len.ensures.value in
    let before = c.loop-i-test.true in
    let below : c.loop-i.i < length items = omega (arith, len, before) in
    let even : get_or items c.loop-i.i 0 % 2 ≡ 0 = search rules in
    let last : All (λ number. number % 2 ≡ 0) (get_or items c.loop-i.i 0 ∷ []) = search (rules, even) in (
      omega (arith, below),
      subst (All (λ number. number % 2 ≡ 0)) (sym (take_more items c.loop-i.i 0 below)) (All-append (λ number. number % 2 ≡ 0) (take c.loop-i.i items) (get_or items c.loop-i.i 0 ∷ []) c.loop-i.invariant.1 last),
    )

pub returns : goal.returns
returns g c =
    let items = (g.V.Vector.bounded c.loop-i.vector).items in
    let len = c.len.ensures.value in
    let past = c.loop-i-test.false in
    let all : take c.loop-i.i items ≡ items = take_all c.loop-i.i items (omega (arith, len, past)) in
    record { even = subst (All (λ number. number % 2 ≡ 0)) all c.loop-i.invariant.1 }
