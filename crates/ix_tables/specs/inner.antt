-- Definitions that no public contract cites: the meaning of the code behind the contracts.
pub mod Filled
pub mod FilledLending
pub mod FullArrays
pub mod HeldItem
pub mod RawLending
pub mod RawMemory
pub mod RawRows
