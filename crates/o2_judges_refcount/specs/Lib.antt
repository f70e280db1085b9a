pub mod CoverRows
pub mod References
pub mod TreeRows
