pub mod OriginRows
pub mod Placed
