pub mod Adding
pub mod ClaimRows
pub mod Uses
