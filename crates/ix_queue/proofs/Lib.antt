pub mod Backs
pub mod Members
pub mod Pairs
pub mod QueueCalls
pub mod QueueClones
pub mod QueueDrains
pub mod QueueOrders
pub mod QueueRemoves
pub mod Ranges
pub mod Rings
pub mod Windows
mod WorkedQueues
