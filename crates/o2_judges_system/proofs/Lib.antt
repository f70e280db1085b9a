pub mod SlotNames
pub mod OnBits
pub mod Slots
pub mod Entries
