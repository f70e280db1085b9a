pub mod Refusals
pub mod Relabels
pub mod Runs
