-- A vector after a `&mut` to one of its items ends: as it was, with the last value behind the reference r at index i.
use Rattle.std.specs.Prelude.{ℕ, List, slice_set}
use Rattle.std.specs.Borrow.{Fml, RattleType, MutBor, Lends}
use Rattle.std.specs.declared.alloc.Allocator.{Ghosts}
use Rattle.std.specs.declared.default.Default as default
use Rattle.ix_tables.specs.Bounded.{Bounded, with_items}
use Rattle.ix_vector.specs.contracts.vector.polymorphic_vec.PolymorphicVec as polymorphic_vec
use Rattle.ix_vector.specs.contracts.vector.static_vec.StaticVec as static_vec

-- of a vector in memory of an A
abbrev pub polymorphic_vec_lends_item : (T A : RattleType) → Ghosts A.Denot → MutBor (Bounded T.Denot) → ℕ → MutBor T.Denot → Fml
polymorphic_vec_lends_item T A g v i r = Lends (polymorphic_vec.the_row T A g) T v r (λ item. with_items v.now (slice_set v.now.items i item))

-- of a vector that is stored inline
abbrev pub static_vec_lends_item : (T CAP : RattleType) → default.Ghosts T.Denot → MutBor (List T.Denot) → ℕ → MutBor T.Denot → Fml
static_vec_lends_item T CAP g v i r = Lends (static_vec.the_row T CAP g) T v r (slice_set v.now i)
