pub mod IndexRows
pub mod Judgements
