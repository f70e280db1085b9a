pub mod NamedRoots
pub mod Readings
pub mod Recounts
pub mod TreeReadings
