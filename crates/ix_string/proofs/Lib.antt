pub mod Appending
pub mod Gaps
pub mod Insertions
pub mod Matches
pub mod Nul
pub mod Retaining
pub mod Texts
mod WorkedTexts
