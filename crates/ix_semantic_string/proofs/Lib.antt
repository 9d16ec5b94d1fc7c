pub mod Eights
pub mod Judging
pub mod Undoing
mod WorkedNames
