-- Laws of definitions.
pub mod HashChains
