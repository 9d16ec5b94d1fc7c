pub mod LittleEndian
pub mod WordBytes
pub mod PaddedTexts
mod WorkedEncodings
mod WorkedWords
pub mod EachStep
pub mod Splits
pub mod LastStored
pub mod LastGiven
pub mod LegalActs
pub mod LegalWrites
pub mod Versions
pub mod PlainReads
pub mod VersionedReads
mod WorkedReads
mod WorkedSteps
pub mod Beginnings
pub mod StageBytes
pub mod DataWords
pub mod Encodes
pub mod Triples
pub mod ArrayEncodings
pub mod OwnPlaces
pub mod Owners
pub mod EveryValue
pub mod Shares
pub mod SequencedKeeps
pub mod SequencedCalls
pub mod Written
mod WorkedHistory
mod WorkedWriters
