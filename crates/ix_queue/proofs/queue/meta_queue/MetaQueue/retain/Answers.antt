use Rattle.std.proofs.Common.{◌<◌, true, false, length, sym, refl, ap, arith, rules}
use Rattle.std.proofs.lemmas.Fn.{called_at, filter_same}
use Rattle.std.proofs.lemmas.Grind.{common_steps}
use Rattle.std.specs.Fn.{CalledAt}
use Rattle.ix_tables.proofs.Calls.{Callable-now, Callable-on}
use Rattle.ix_queue.proofs.QueueCalls.{Asked-start, Asked-next, Asked-item, Asked-more, Asked-end}
use Rattle.ix_queue.proofs.queue.meta_queue.MetaQueue.retain.Goals.{in-Some+then-f, in-Some+else-f, in_default}
use Rattle.ix_queue.proofs.queue.meta_queue.MetaQueue.retain.Goals as goal

pub f-requires : goal.f-requires
f-requires g c =
    let at = c.loop-i.invariant in
    let len = c.len-i-end.ensures.value in
    let test = c.loop-i-test.true in
    let more : c.loop-i.i < length c.args.self.now.items = omega arith in
    Callable-now at.callable c.in-Some.item _ (Asked-item (CalledAt g.F.FnMut) _ _ c.loop-i.i _ _ at.asked c.in-Some.item more (sym c.in-Some.ensures.value)) _ refl

pub loop-i-init : goal.loop-i-init
loop-i-init g c =
    record { capacity = refl; fits = omega arith; callable = c.requires; asked = Asked-start (CalledAt g.F.FnMut) _ _ }

pub loop-i-preserved : goal.loop-i-preserved
loop-i-preserved g c =
    let at = c.loop-i.invariant in
    let len = c.len-i-end.ensures.value in
    let test = c.loop-i-test.true in
    let more : c.loop-i.i < length c.args.self.now.items = omega arith in
    elim c.match-pop.branch [
      | in-Some+then-f w ↦
          let x = w.in-Some.item in
          let front = sym w.in-Some.ensures.value in
          let called : CalledAt g.F.FnMut c.loop-i.f x true w.f.new.self = called_at g.F.FnMut w.f.ensures w.if-f.true in
          rw (w.self-is, w.f-is) (record {
            capacity = search rules;
            fits = grind (arith, common_steps);
            callable = Callable-on at.callable x _ (Asked-item (CalledAt g.F.FnMut) _ _ c.loop-i.i _ _ at.asked x more front) w.f.new.self (true, called);
            asked = rw (w.append.ensures, w.in-Some.ensures.queue) (Asked-next (CalledAt g.F.FnMut) _ _ c.loop-i.i _ _ at.asked x more front true w.f.new.self called);
          })
      | in-Some+else-f w ↦
          let x = w.in-Some.item in
          let front = sym w.in-Some.ensures.value in
          let called : CalledAt g.F.FnMut c.loop-i.f x false w.f.new.self = called_at g.F.FnMut w.f.ensures w.if-f.false in
          rw (w.self-is, w.f-is) (record {
            capacity = search rules;
            fits = grind (arith, common_steps);
            callable = Callable-on at.callable x _ (Asked-item (CalledAt g.F.FnMut) _ _ c.loop-i.i _ _ at.asked x more front) w.f.new.self (false, called);
            asked = rw (w.in-Some.ensures.queue) (Asked-next (CalledAt g.F.FnMut) _ _ c.loop-i.i _ _ at.asked x more front false w.f.new.self called);
          })
      | in_default w ↦
          let some = Asked-more (CalledAt g.F.FnMut) _ _ c.loop-i.i _ _ at.asked more in
          let none = ap length (w.in_default.ensures.empty.0 refl) in
          absurd (omega (arith, some, none))
    ]

pub returns-clause-items : goal.returns-clause-items
returns-clause-items g c =
    let len = c.len-i-end.ensures.value in
    let end = c.loop-i-test.false in
    Asked-end (CalledAt g.F.FnMut) _ _ c.loop-i.i _ _ c.loop-i.invariant.asked (omega arith)

pub returns-clause-filtered : goal.returns-clause-filtered
returns-clause-filtered g c test says = filter_same _ test _ says _ _ (returns-clause-items g c)
