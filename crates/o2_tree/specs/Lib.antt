pub mod TreeRows
pub mod TreeWalks
