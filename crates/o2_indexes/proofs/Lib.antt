pub mod Agreements
pub mod PlacesTold
pub mod RowsTold
pub mod SoundTold
