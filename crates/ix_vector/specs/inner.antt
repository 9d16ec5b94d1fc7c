-- Definitions that no public contract cites: the meaning of the code behind the contracts.
pub mod Fronts
pub mod ItemLending
