pub mod Chains
pub mod Counts
pub mod Draining
pub mod Entries
pub mod FreeKeys
pub mod KeyIndexes
pub mod KeyLists
pub mod KeyRanges
pub mod Memory
pub mod Outcomes
pub mod SlotTableCalls
pub mod SlotTableCopies
pub mod SlotTableDrains
pub mod SlotTableSteps
pub mod SlotTables
mod WorkedSlotTables
