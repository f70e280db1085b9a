pub mod Opened
pub mod WholeDevice
