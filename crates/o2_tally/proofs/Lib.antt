pub mod Agains
pub mod Finds
pub mod Sames
