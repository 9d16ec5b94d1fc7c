-- The iterators over a vector, and the items that a vector accepts from an iterator or a closure.
use Rattle.std.specs.Prelude.{ℕ, ◌≡◌, ◌+◌, ◌^◌, ◌<◌, List, length, Option, Some}
use Rattle.std.specs.Borrow.{Fml, RattleType, MutBor, follows, Array}
use Rattle.std.specs.Iterator.{YieldsThen}
use Rattle.std.specs.Iterator.Runs.{WholeRun, YieldsRefsInOrder, YieldsRefsInReverse, YieldsMutRefsInOrder, YieldsMutRefsInReverse}
use Rattle.std.specs.List.{refill}
use Rattle.std.specs.Slice.Iter.{iter_rest, iter_mut_rest, iter_mut_name, iter_steps, iter_steps_back, iter_mut_steps, iter_mut_steps_back}
use Rattle.std.specs.declared.alloc.Allocator as alloc
use Rattle.std.specs.declared.default.Default as default
use Rattle.std.specs.declared.slice.Iter.{Iter}
use Rattle.std.specs.declared.slice.IterMut.{IterMut}
use Rattle.ix_tables.specs.Bounded.{Bounded}
use Rattle.ix_tables.specs.Calls.{IsCallableBelow}
use Rattle.ix_vector.specs.VectorSteps.{vec_extend, vec_refill}
use Rattle.ix_vector.specs.contracts.vector.polymorphic_vec.PolymorphicVec as polymorphic_vec
use Rattle.ix_vector.specs.contracts.vector.static_vec.StaticVec as static_vec

-- n calls may be made in turn, whatever they return
abbrev pub IsCallableTimes : {F X : Type 0} → (F → X → F → Type 0) → (F → Type 0) → ℕ → F → Type 0
IsCallableTimes step pre = IsCallableBelow (λ g i x next. step g x next) (λ g i. pre g)

module _ {T : Type 0} (xs : List T) where
  -- the iterator yields references to xs, from the first to the last, or from the back
  pub record YieldsRefsTo (it : Iter T) : Type 0 where
    pub rest : iter_rest it ≡ xs
    pub bound : length (iter_rest it) < 2 ^ 64
    pub order : YieldsRefsInOrder (iter_steps {A = T}) iter_rest
    pub reverse : YieldsRefsInReverse (iter_steps_back {A = T}) iter_rest

  -- the same, where the references are mutable
  pub record YieldsMutRefsTo (it : IterMut T) : Type 0 where
    pub rest : iter_mut_rest it ≡ xs
    pub bound : length (iter_mut_rest it) < 2 ^ 64
    pub order : YieldsMutRefsInOrder (iter_mut_steps {A = T}) iter_mut_rest
    pub reverse : YieldsMutRefsInReverse (iter_mut_steps_back {A = T}) iter_mut_rest

-- a vector after an iterator over mutable references ends: its items are overwritten by their last values
abbrev pub vec_lends_iter : (V T : RattleType) → (V.Denot → List T.Denot → V.Denot) → MutBor V.Denot → IterMut T.Denot → Fml
vec_lends_iter V T with_slice v it = follows V (Array T 0) v.ghost_name (iter_mut_name it) (with_slice v.now)

-- the same of a vector in memory of an A
abbrev pub polymorphic_vec_lends_iter : (T A : RattleType) → alloc.Ghosts A.Denot → MutBor (Bounded T.Denot) → IterMut T.Denot → Fml
polymorphic_vec_lends_iter T A g = vec_lends_iter (polymorphic_vec.the_row T A g) T vec_refill

-- the same of a vector that is stored inline
abbrev pub static_vec_lends_iter : (T CAP : RattleType) → default.Ghosts T.Denot → MutBor (List T.Denot) → IterMut T.Denot → Fml
static_vec_lends_iter T CAP g = vec_lends_iter (static_vec.the_row T CAP g) T (λ items xs. refill (length items) items xs)

-- iter becomes an iterator, whose calls of `next` are steps
module _ {U S T : Type 0} (becomes : U → S → Type 0) (steps : S → Option T → S → Type 0) (iter : U) where
  -- the iterator yields xs, in this order, and ends
  abbrev pub AreItemsOf : List T → Type 0
  AreItemsOf xs = (it : S) × becomes iter it × WholeRun steps it (λ run. xs ≡ run.items)

  -- the items of the iterator are appended
  abbrev pub ExtendsByItemsOf : Bounded T → Bounded T → Type 0
  ExtendsByItemsOf old new = (it : S) × becomes iter it × WholeRun steps it (λ run. new ≡ vec_extend old run.items)

  -- the iterator yields as many items as there is room for, and then one more
  abbrev pub YieldsMoreThanFit : Bounded T → Type 0
  YieldsMoreThanFit vec =
      (it rest : S) × (xs : List T) × (x : T) × becomes iter it × YieldsThen steps it xs (Some x) rest × (length vec.items + length xs ≡ vec.capacity)
