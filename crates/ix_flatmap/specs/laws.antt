-- Laws of definitions.
pub mod Bounds
pub mod MapCompared
