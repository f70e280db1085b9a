pub mod Replays
pub mod Recoverables
pub mod Stable
