use Rattle.std.proofs.Common.{rules, ◌≡◌, ◌+◌, ◌-◌, ◌≤◌, ◌∙◌, true, false, true≢false, length, drop, take, refl, sym, ap, arith}
use Rattle.std.specs.List.{swap}
use Rattle.std.specs.List.Retain.{DiffersFromLast}
use Rattle.std.proofs.lemmas.List.Filters.{dedup_is}
use Rattle.ix_vector.proofs.Kept.{AreInFront-start, AreInFront-order, AreInFront-keeps, AreInFront-drops, AreInFront-last, AreInFront-end, DiffersFromLast-kept}
use Rattle.ix_vector.proofs.vector.retain.unlike_in_front.Goals.{then-is_unlike_last, else-is_unlike_last}
use Rattle.ix_vector.proofs.vector.retain.unlike_in_front.Goals as goal

pub loop-i-init : goal.loop-i-init
loop-i-init g c = record { len = refl; front = AreInFront-start (DiffersFromLast g.T.PartialEq.eq) _ _ }

pub is_unlike_last-requires : goal.is_unlike_last-requires
is_unlike_last-requires g c =
    let at = c.loop-i.invariant in
    let order = AreInFront-order (DiffersFromLast g.T.PartialEq.eq) _ _ c.loop-i.i _ _ _ at.front in
    omega (arith, order, at.len, c.loop-i-test.true)

pub swap-requires-clause-a_in_bounds : goal.swap-requires-clause-a_in_bounds
swap-requires-clause-a_in_bounds g c =
    let at = c.loop-i.invariant in
    let order = AreInFront-order (DiffersFromLast g.T.PartialEq.eq) _ _ c.loop-i.i _ _ _ at.front in
    omega (arith, order, at.len, c.loop-i-test.true)

pub overflow_add-kept : goal.overflow_add-kept
overflow_add-kept g c =
    let at = c.loop-i.invariant in
    let order = AreInFront-order (DiffersFromLast g.T.PartialEq.eq) _ _ c.loop-i.i _ _ _ at.front in
    let bound : c.loop-i.kept + 1 ≤ length c.loop-i.items = omega (arith, order, at.len, c.loop-i-test.true) in
    search (rules, bound)

pub loop-i-preserved : goal.loop-i-preserved
loop-i-preserved g c =
    let at = c.loop-i.invariant in
    let E = g.T.PartialEq.eq in
    let i = c.loop-i.i in
    let kept = c.loop-i.kept in
    let items = c.loop-i.items in
    let x = c.item_at.result.now in
    let more = c.loop-i-test.true in
    let here = sym c.item_at.ensures in
    let order = AreInFront-order (DiffersFromLast E) _ _ i _ _ _ at.front in
    let within : kept ≤ length items = omega (arith, order, at.len, more) in
    elim c.if-is_unlike_last.branch [
      | then-is_unlike_last w ↦
          let last = AreInFront-last (DiffersFromLast E) _ _ i _ _ _ at.front x more here in
          let behind : kept + 1 - 1 ≡ kept = omega arith in
          let moved = swap items kept i in
          let differs = DiffersFromLast-kept E items x (drop (kept + 1 - 1) (take (kept + 1) moved)) kept true within (λ none. refl)
          (λ some. sym w.if-is_unlike_last.true ∙ c.is_unlike_last.ensures.last some x) (λ is. ap (λ n. drop n (take (kept + 1) moved)) behind ∙ last) (λ is. absurd (true≢false is)) in
          rw (w.items-is, w.kept-is, w.swap.ensures.after) (record {
            len = ap length (sym w.swap.ensures.after) ∙ w.swap.ensures.len ∙ at.len;
            front = AreInFront-keeps (DiffersFromLast E) _ _ i _ _ _ at.front x more here _ differs;
          })
      | else-is_unlike_last w ↦
          let differs = DiffersFromLast-kept E items x (drop (kept - 1) (take kept items)) kept false within (λ none. sym w.if-is_unlike_last.false ∙ c.is_unlike_last.ensures.none none)
          (λ some. sym w.if-is_unlike_last.false ∙ c.is_unlike_last.ensures.last some x) (λ is. absurd (true≢false (sym is))) (λ is. refl) in
          rw (w.items-is, w.kept-is) (record {
            len = at.len;
            front = AreInFront-drops (DiffersFromLast E) _ _ i _ _ _ at.front x more here _ differs;
          })
    ]

pub returns-clause-kept : goal.returns-clause-kept
returns-clause-kept g c =
    dedup_is g.T.PartialEq.eq _ _ (AreInFront-end (DiffersFromLast g.T.PartialEq.eq) _ _ c.loop-i.i _ _ _ c.loop-i.invariant.front (omega (arith, c.loop-i-test.false)))
