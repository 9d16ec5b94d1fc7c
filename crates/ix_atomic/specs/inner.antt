-- Definitions that no public contract cites: the meaning of the code behind the contracts.
pub mod DataWords
pub mod Decoding
pub mod StepTests
pub mod SequencedRule
pub mod SequencedSteps
