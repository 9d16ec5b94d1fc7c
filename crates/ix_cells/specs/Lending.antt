-- A table or a vector after a `&mut` into it ends: as it was, with the last value behind the reference r.
pub use Rattle.ix_tables.specs.Lending.{table_lends, counted_lends, raw_slots_lends}
pub use Rattle.ix_vector.specs.Lending.{vec_lends, polymorphic_vec_lends, static_vec_lends}
