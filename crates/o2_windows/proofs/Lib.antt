pub mod Ranges
pub mod SlotLists
pub mod Options
pub mod WindowsTold
pub mod LogsTold
