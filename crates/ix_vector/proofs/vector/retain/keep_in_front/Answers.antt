use Rattle.std.proofs.Common.{rules, ◌+◌, ◌≤◌, ◌∙◌, true, false, length, refl, sym, arith}
use Rattle.std.specs.Fn.{CalledAt}
use Rattle.std.proofs.lemmas.Fn.{called_at}
use Rattle.ix_tables.proofs.Calls.{Callable-now, Callable-on}
use Rattle.ix_vector.proofs.Kept.{AreInFront-start, AreInFront-order, AreInFront-item, AreInFront-keeps, AreInFront-drops, AreInFront-end}
use Rattle.ix_vector.proofs.vector.retain.keep_in_front.Goals.{then-f, else-f}
use Rattle.ix_vector.proofs.vector.retain.keep_in_front.Goals as goal

pub loop-i-init : goal.loop-i-init
loop-i-init g c = record { len = refl; callable = c.requires; front = AreInFront-start (CalledAt g.F.FnMut) _ _ }

pub f-requires : goal.f-requires
f-requires g c =
    let at = c.loop-i.invariant in
    let more = c.loop-i-test.true in
    Callable-now at.callable c.item_at.result.now _ (AreInFront-item (CalledAt g.F.FnMut) _ _ c.loop-i.i _ _ _ at.front c.item_at.result.now more (sym c.item_at.ensures)) c.item_at.result refl

pub swap-requires-clause-a_in_bounds : goal.swap-requires-clause-a_in_bounds
swap-requires-clause-a_in_bounds g c =
    let at = c.loop-i.invariant in
    let order = AreInFront-order (CalledAt g.F.FnMut) _ _ c.loop-i.i _ _ _ at.front in
    omega (arith, order, at.len, c.loop-i-test.true)

pub overflow_add-kept : goal.overflow_add-kept
overflow_add-kept g c =
    let at = c.loop-i.invariant in
    let order = AreInFront-order (CalledAt g.F.FnMut) _ _ c.loop-i.i _ _ _ at.front in
    let bound : c.loop-i.kept + 1 ≤ length c.loop-i.items = omega (arith, order, at.len, c.loop-i-test.true) in
    search (rules, bound)

pub loop-i-preserved : goal.loop-i-preserved
loop-i-preserved g c =
    let at = c.loop-i.invariant in
    let x = c.item_at.result.now in
    let more = c.loop-i-test.true in
    let here = sym c.item_at.ensures in
    let next = AreInFront-item (CalledAt g.F.FnMut) _ _ c.loop-i.i _ _ _ at.front x more here in
    elim c.if-f.branch [
      | then-f w ↦
          let called : CalledAt g.F.FnMut c.loop-i.f x true c.f.new.self = called_at g.F.FnMut c.f.ensures w.if-f.true in
          rw (w.items-is, w.kept-is) (record {
            len = w.swap.ensures.len ∙ at.len;
            callable = Callable-on at.callable x _ next c.f.new.self (true, called);
            front = rw w.swap.ensures.after (AreInFront-keeps (CalledAt g.F.FnMut) _ _ c.loop-i.i _ _ _ at.front x more here c.f.new.self called);
          })
      | else-f w ↦
          let called : CalledAt g.F.FnMut c.loop-i.f x false c.f.new.self = called_at g.F.FnMut c.f.ensures w.if-f.false in
          rw (w.items-is, w.kept-is) (record {
            len = at.len;
            callable = Callable-on at.callable x _ next c.f.new.self (false, called);
            front = AreInFront-drops (CalledAt g.F.FnMut) _ _ c.loop-i.i _ _ _ at.front x more here c.f.new.self called;
          })
    ]

pub returns-clause-kept : goal.returns-clause-kept
returns-clause-kept g c =
    AreInFront-end (CalledAt g.F.FnMut) _ _ c.loop-i.i _ _ _ c.loop-i.invariant.front (omega (arith, c.loop-i-test.false))
