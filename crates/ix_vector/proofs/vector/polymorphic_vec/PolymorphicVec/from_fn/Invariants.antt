use Rattle.std.proofs.Common.{◌≡◌, length}
use Rattle.std.specs.Array.{index_steps}
use Rattle.std.specs.Iterator.{CallableAtEachTurn}
use Rattle.ix_tables.specs.Calls.{ResultsFrom}
use Rattle.ix_vector.proofs.vector.polymorphic_vec.PolymorphicVec.from_fn.Given as goal

abbrev pub invariant-loop-n : goal.invariant-loop-n
invariant-loop-n g l = record {
  callable : CallableAtEachTurn (index_steps l.capacity) (λ p i q. (x : g.row.T.Denot) × goal.F-step g p i x q) (λ p i. goal.F-pre g p i) l.n l.f;
  capacity : l.vector.capacity ≡ l.capacity;
  len : length l.vector.items ≡ l.n;
  answers : ResultsFrom (λ p i x q. goal.F-step g p i x q) 0 l.initial.f l.vector.items l.f;
}
