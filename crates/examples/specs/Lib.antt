pub mod Limits
pub mod Tasks
pub mod UnitNames
pub mod UnitNamesLaws
