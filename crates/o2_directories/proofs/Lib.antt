pub mod MetNames
pub mod SoundNames
