use Rattle.std.proofs.Common.{◌≡◌, ◌-◌, List, length}
use Rattle.std.specs.Array.{index_steps}
use Rattle.std.specs.Iterator.{CallableAtEachTurn}
use Rattle.std.specs.List.{FoldsTo}
use Rattle.ix_vector.specs.VectorSteps.{vec_extend}
use Rattle.ix_vector.proofs.vector.vector_trait.Vector.resize_with.Given as goal

abbrev pub invariant-loop-i : goal.invariant-loop-i
invariant-loop-i g l = record {
  callable : CallableAtEachTurn (index_steps (l.n - l.old_len)) (λ p i q. (x : g.row.T.Denot) × goal.F-step g p x q) (λ p i. goal.F-pre g p) (l._i - l.old_len) l.f;
  grown : (ys : List g.row.T.Denot) × (length ys ≡ l._i - l.old_len) × (g.Self.Vector.bounded l.self ≡ vec_extend (g.Self.Vector.bounded l.initial.self) ys)
      × FoldsTo (λ p y q. goal.F-step g p y q) l.initial.f ys l.f;
}
