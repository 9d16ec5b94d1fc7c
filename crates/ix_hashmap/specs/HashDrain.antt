-- The view that contracts have of an iterator that drains a hash map. It is their view of one that drains any map.
pub use Rattle.ix_flatmap.specs.MapDrain.{drain_items, drain_left, drain_lender}
