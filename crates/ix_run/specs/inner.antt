-- Definitions that no public contract cites: the meaning of the code behind the contracts.
pub mod Containers
pub mod Faults
pub mod Input
pub mod LineRest
pub mod Listing
pub mod NextLine
pub mod Progress
pub mod NameTables
pub mod Writing
