pub mod Devices
pub mod Openings
