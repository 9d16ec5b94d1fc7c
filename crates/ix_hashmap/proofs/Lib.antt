pub mod HashChains
pub mod HashSteps
pub mod Memory
