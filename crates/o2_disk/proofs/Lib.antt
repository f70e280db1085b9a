pub mod Copies
pub mod Images
pub mod Left
pub mod Moments
pub mod Noted
pub mod Puts
pub mod Settled
pub mod Sinks
