-- A vector after a `&mut` into it ends: as it was, with the last value behind the reference r.
use Rattle.std.specs.Prelude.{length, List}
use Rattle.std.specs.Borrow.{Fml, RattleType, MutBor, Lends, Array}
use Rattle.std.specs.List.{refill}
use Rattle.std.specs.declared.alloc.Allocator.{Ghosts}
use Rattle.std.specs.declared.default.Default as default
use Rattle.ix_tables.specs.Bounded.{Bounded}
use Rattle.ix_vector.specs.VectorSteps.{vec_refill}
use Rattle.ix_vector.specs.contracts.vector.polymorphic_vec.PolymorphicVec as polymorphic_vec
use Rattle.ix_vector.specs.contracts.vector.static_vec.StaticVec as static_vec

-- as the items
abbrev pub vec_lends : (V T : RattleType) → (V.Denot → List T.Denot → V.Denot) → MutBor V.Denot → MutBor (List T.Denot) → Fml
vec_lends V T with_slice v r = Lends V (Array T 0) v r (with_slice v.now)

-- the same of a vector in memory of an A
abbrev pub polymorphic_vec_lends : (T A : RattleType) → Ghosts A.Denot → MutBor (Bounded T.Denot) → MutBor (List T.Denot) → Fml
polymorphic_vec_lends T A g = vec_lends (polymorphic_vec.the_row T A g) T vec_refill

-- the same of a vector that is stored inline
abbrev pub static_vec_lends : (T CAP : RattleType) → default.Ghosts T.Denot → MutBor (List T.Denot) → MutBor (List T.Denot) → Fml
static_vec_lends T CAP g = vec_lends (static_vec.the_row T CAP g) T (λ items xs. refill (length items) items xs)
