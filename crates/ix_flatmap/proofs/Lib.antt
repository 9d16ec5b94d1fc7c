pub mod FlatBounds
pub mod MapBytes
pub mod MapCalls
pub mod MapCopies
pub mod MapEntries
pub mod MapEqual
pub mod MapLengths
pub mod MapOutcomes
pub mod MapSteps
mod WorkedFlatMaps
