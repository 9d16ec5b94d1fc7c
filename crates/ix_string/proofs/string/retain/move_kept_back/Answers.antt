use Rattle.std.proofs.Common.{rules, of_calls, refl, length, ℕ, ◌≡◌, ◌-◌, ◌∷◌, ◌∙◌, [], List, true, false, ap, take, drop, get_or, set, arith}
use Rattle.std.specs.Prelude.{reverse}
use Rattle.std.proofs.lemmas.List.{take-set-le, take_all, drop_all}
use Rattle.ix_string.specs.Retain.{retained_items}
use Rattle.ix_string.proofs.Retaining.{Retains-back, reverse-front, get_or-front, take-front, drop-put, IsTextByte-front, IsCallableAtText-now, IsCallableAtText-on}
use Rattle.ix_string.proofs.string.retain.move_kept_back.Goals as goal

pub loop-idx-init : goal.loop-idx-init
loop-idx-init g c =
    let buffer = c.args.buffer.now in
    let whole : take (length buffer) buffer ≡ buffer = take_all (length buffer) buffer (omega arith) in
    let none : drop (length buffer) buffer ≡ [] = drop_all (length buffer) buffer (omega arith) in
    record {
      callable = rw whole c.requires.callable;
      order = search rules;
      within = search rules;
      front = refl;
      calls = rw none ([], refl, refl);
    }

pub loop-idx-preserved-then-not-f : goal.loop-idx-preserved-then-not-f
loop-idx-preserved-then-not-f g c =
    let at = c.loop-idx.invariant in
    let old = c.args.buffer.now in
    let buffer = c.loop-idx.buffer in
    let n = c.loop-idx.idx in
    let i = n - 1 in
    let s = c.loop-idx.start - 1 in
    let positive = c.loop-idx-test.true in
    let order = at.order in
    let within = at.within in
    let y = get_or buffer i 0 in
    let text_byte = IsTextByte-front buffer old i n 0 (omega arith) (omega arith) at.front c.requires.text in
    let ends : reverse (take n old) ≡ y ∷ reverse (take i old) =
    rw (get_or-front buffer old i n 0 (omega arith) at.front) (reverse-front old n 0 (omega arith) (omega arith)) in
    let called : goal.F-step g c.loop-idx.f y false c.f.new.self = rw (← c.if-not-f.true) (search of_calls) in
    let more = Retains-back (λ p x b q. goal.F-step g p x b q) c.args.f buffer old n 0 at.calls.0 c.loop-idx.f false c.f.new.self (omega arith) (omega arith) at.front at.calls.1 called in
    let put = drop-put buffer s c.loop-idx.start y (omega arith) (omega arith) in
    let left : drop s (set buffer s y) ≡ y ∷ retained_items at.calls.0 (drop n old) = put ∙ ap (λ (r : List ℕ). y ∷ r) at.calls.2 in
    record {
      callable = IsCallableAtText-on (take n old) (take (n - 1) old) at.callable y text_byte ends false c.f.new.self called;
      order = omega arith;
      within = omega arith;
      front = take-set-le i buffer s y (omega arith) ∙ take-front buffer old i n (omega arith) at.front;
      calls = (more.0, more.1, left ∙ more.2);
    }

pub loop-idx-preserved : goal.loop-idx-preserved
loop-idx-preserved g c =
    let at = c.loop-idx.invariant in
    let old = c.args.buffer.now in
    let buffer = c.loop-idx.buffer in
    let n = c.loop-idx.idx in
    let positive = c.loop-idx-test.true in
    let order = at.order in
    let within = at.within in
    let text_byte = IsTextByte-front buffer old (n - 1) n 0 (omega arith) (omega arith) at.front c.requires.text in
    let ends : reverse (take n old) ≡ get_or buffer (n - 1) 0 ∷ reverse (take (n - 1) old) =
    rw (get_or-front buffer old (n - 1) n 0 (omega arith) at.front) (reverse-front old n 0 (omega arith) (omega arith)) in
    let called : goal.F-step g c.loop-idx.f (get_or buffer (n - 1) 0) true c.f.new.self = rw (← c.if-not-f.false) (search of_calls) in
    let more = Retains-back (λ p x b q. goal.F-step g p x b q) c.args.f buffer old n 0 at.calls.0 c.loop-idx.f true c.f.new.self (omega arith) (omega arith) at.front at.calls.1 called in
    record {
      callable = IsCallableAtText-on (take n old) (take (n - 1) old) at.callable (get_or buffer (n - 1) 0) text_byte ends true c.f.new.self called;
      order = omega arith;
      within = at.within;
      front = take-front buffer old (n - 1) n (omega arith) at.front;
      calls = (more.0, more.1, at.calls.2 ∙ more.2);
    }

pub f-requires : goal.f-requires
f-requires g c =
    let at = c.loop-idx.invariant in
    let n = c.loop-idx.idx in
    let positive = c.loop-idx-test.true in
    let order = at.order in
    let within = at.within in
    let old = c.args.buffer.now in
    let buffer = c.loop-idx.buffer in
    let ends : reverse (take n old) ≡ get_or buffer (n - 1) 0 ∷ reverse (take (n - 1) old) =
    rw (get_or-front buffer old (n - 1) n 0 (omega arith) at.front) (reverse-front old n 0 (omega arith) (omega arith)) in
    IsCallableAtText-now (take n old) (take (n - 1) old) at.callable _ (IsTextByte-front c.loop-idx.buffer c.args.buffer.now (n - 1) n 0 (omega arith) (omega arith) at.front c.requires.text) ends
