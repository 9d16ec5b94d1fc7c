pub mod Copies
pub mod DeadKeys
pub mod Tests
pub mod StringMatches
pub mod StringRetain
pub mod StringTests
mod WorkedRuns
