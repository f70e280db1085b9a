pub mod Entries
pub mod Windows
pub mod Truncations
pub mod SlotChecks
pub mod Emptied
