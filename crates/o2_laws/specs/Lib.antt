pub mod Frames
pub mod Walked
pub mod Agrees
