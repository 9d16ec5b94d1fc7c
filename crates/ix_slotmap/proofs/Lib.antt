pub mod Generations
pub mod HeldRanges
pub mod SlotMapCounts
pub mod SlotMapDrains
pub mod SlotMapEntries
pub mod SlotMapOutcomes
pub mod SlotMapCalls
pub mod SlotMapCopies
pub mod PlaceSizes
pub mod WordedValues
pub mod SlotMapIndexes
pub mod Words
mod WorkedSlotMaps
