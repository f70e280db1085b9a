pub mod Ranges
pub mod Claimed
pub mod SlotWalks
pub mod WindowsTold
pub mod LogsTold
