pub mod Computed
pub mod Fronts
pub mod Kept
pub mod Lists
pub mod Shifts
pub mod Tails
pub mod VectorDrains
mod WorkedVectors
