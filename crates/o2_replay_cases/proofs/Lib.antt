pub mod Fullness
pub mod VolumesOfImages
pub mod OneWriteReplays
pub mod OneWriteStops
pub mod RecoverableImages
