pub mod WindowBits
pub mod SlotRows
