pub mod Owners
pub mod Readings
pub mod Maps
pub mod Rising
pub mod Rules
