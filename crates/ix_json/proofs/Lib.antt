pub mod Entries
pub mod Filling
pub mod NewMaps
pub mod Objects
pub mod TextMaps
pub mod TextTrees
mod WorkedJson
