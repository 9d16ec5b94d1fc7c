-- Definitions that no public contract cites: the meaning of the code behind it.
pub mod Bounds
pub mod FlatSearch
