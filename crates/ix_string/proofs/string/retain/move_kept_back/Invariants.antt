use Rattle.std.proofs.Common.{◌≡◌, ◌≤◌, List, Bool, length, take, drop}
use Rattle.std.specs.Prelude.{reverse}
use Rattle.ix_string.specs.Retain.{ResultsAt, retained_items, IsCallableAtText}
use Rattle.ix_string.proofs.string.retain.move_kept_back.Given as goal

abbrev pub invariant-loop-idx : goal.invariant-loop-idx
invariant-loop-idx g l =
    let old = l.initial.buffer in
    record {
      callable : IsCallableAtText (λ p x b q. goal.F-step g p x b q) (λ p x. goal.F-pre g p x) (take l.idx old) l.f;
      order : l.idx ≤ l.start;
      within : l.start ≤ length old;
      front : take l.idx l.buffer ≡ take l.idx old;
      calls : (results : List Bool) × ResultsAt (λ p x b q. goal.F-step g p x b q) l.initial.f (reverse (drop l.idx old)) results l.f
          × (drop l.start l.buffer ≡ retained_items results (drop l.idx old));
    }
